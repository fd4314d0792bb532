-- What the first change is, where the first rows of both lists are compared.
use Rattle.std.proofs.Common.{◌≡◌, ℕ, Bool, true, false, cond, not, ◌||◌, List, [], ◌∷◌, ◌++◌, refl, sym, ap, ◌∙◌, subst, append_assoc}
use Rattle.std.specs.Cmp.{IsTotalOrder}
use Rattle.std.specs.List.{flat_map}
use Rattle.gufi_base.specs.declared.record.Row.{Row}
use Rattle.gufi_base.specs.Basics.{sort_by}
use Rattle.gufi_base.specs.Paths.{Components}
use Rattle.gufi_base.proofs.Prefixes.{paths_total}
use Rattle.gufi_diff.specs.Changes.{Change, altered, change_cmp, change_line, changes, come, diff_lines, gone, has_other, has_path, signed}
use Rattle.gufi_diff.specs.Passes.{altered_line}
use Rattle.gufi_diff.specs.Records.{same_record}
use Rattle.gufi_diff.proofs.Least.{sort_by-least}
use Rattle.gufi_diff.proofs.Skips.{Behind, SaidBehind, alike, altered-skip, changes_behind, gone-skip, has_other-behind, has_path-behind}

changes_total : IsTotalOrder change_cmp
changes_total = record {
  antisymm = λ a b. paths_total.antisymm a.path b.path;
  trans = λ a b c. paths_total.trans a.path b.path c.path;
  congr = λ a b c. paths_total.congr a.path b.path c.path;
}

abbrev pub said : ℕ → Row → Change
said sign row = record { sign = sign; path = row.path }

-- the change before all others has the first line
first_line : (change : Change) (front back : List Change) → SaidBehind change.path (front ++ back)
    → flat_map change_line (sort_by change_cmp (front ++ change ∷ back)) ≡ change_line change ++ flat_map change_line (sort_by change_cmp (front ++ back))
first_line change front back behind = ap (flat_map change_line) (sort_by-least change_cmp changes_total change front back behind)

gone-first : (first : Row) (old new : List Row) → Behind first.path new → gone (first ∷ old) new ≡ first ∷ gone old new
gone-first first old new behind = ap (λ b. cond (not b) (first ∷ gone old new) (gone old new)) (has_path-behind first.path new behind)

-- a row of the first list that stands before all others is gone
pub first_gone : (first : Row) (old new : List Row) → Behind first.path old → Behind first.path new
    → diff_lines (first ∷ old) new ≡ change_line (said 45 first) ++ diff_lines old new
unfolding diff_lines
first_gone first old new h k =
    ap (λ all. flat_map change_line (sort_by change_cmp all)) (λ i. signed 45 (gone-first first old new k i) ++ signed 43 (gone-skip first new old k i) ++ signed 126 (altered-skip first old new k i))
    ∙ first_line (said 45 first) [] (changes old new) (changes_behind first.path old new h k)

altered-come : (first : Row) (old new : List Row) → Behind first.path old → altered old (first ∷ new) ≡ altered old new
altered-come first old new behind = ap (λ b. cond b (first ∷ altered old new) (altered old new)) (has_other-behind first old behind)

-- a row of the second list that stands before all others has come
pub first_come : (first : Row) (old new : List Row) → Behind first.path old → Behind first.path new
    → diff_lines old (first ∷ new) ≡ change_line (said 43 first) ++ diff_lines old new
unfolding diff_lines
first_come first old new h k =
    let front : List Change = signed 45 (gone old new) in
    let middle : List Change = signed 43 (come old new) in
    let back : List Change = signed 126 (altered old new) in
    let behind : SaidBehind first.path (front ++ (middle ++ back)) = rw (← append_assoc front middle back) (changes_behind first.path old new h k) in
    ap (λ all. flat_map change_line (sort_by change_cmp all))
    ((λ i. signed 45 (gone-skip first old new h i) ++ signed 43 (gone-first first new old h i) ++ signed 126 (altered-come first old new h i))
    ∙ append_assoc front (said 43 first ∷ middle) back)
    ∙ first_line (said 43 first) front (middle ++ back) behind
    ∙ ap (λ all. change_line (said 43 first) ++ flat_map change_line (sort_by change_cmp all)) (sym (append_assoc front middle back))

has_path-first : (one other : Row) (rows : List Row) → one.path ≡ other.path → has_path (one ∷ rows) other.path ≡ true
has_path-first one other rows same = ap (λ b. b || has_path rows other.path) (alike one.path other.path same)

gone-both : (one other : Row) (rows others : List Row) → one.path ≡ other.path → Behind other.path rows → gone (one ∷ rows) (other ∷ others) ≡ gone rows others
gone-both one other rows others same behind =
    ap (λ b. cond (not b) (one ∷ gone rows (other ∷ others)) (gone rows (other ∷ others))) (has_path-first other one others (sym same)) ∙ gone-skip other rows others behind

or_false : (b : Bool) → (b || false) ≡ b
or_false true = refl
or_false false = refl

has_other-first : (one other : Row) (old : List Row) → one.path ≡ other.path → Behind other.path old → has_other (one ∷ old) other ≡ not (same_record one.rec other.rec)
has_other-first one other old same behind = rw (alike one.path other.path same, has_other-behind other old behind) (or_false (not (same_record one.rec other.rec)))

altered-both : (one other : Row) (old new : List Row) → one.path ≡ other.path → Behind one.path new → Behind other.path old
    → altered (one ∷ old) (other ∷ new) ≡ cond (not (same_record one.rec other.rec)) (other ∷ altered old new) (altered old new)
altered-both one other old new same h k =
    ap (λ b. cond b (other ∷ altered (one ∷ old) new) (altered (one ∷ old) new)) (has_other-first one other old same k)
    ∙ ap (λ l. cond (not (same_record one.rec other.rec)) (other ∷ l) l) (altered-skip one old new h)

-- the first rows of both lists, of one path, alter it or not
pub first_both : (one other : Row) (old new : List Row) → one.path ≡ other.path → Behind other.path old → Behind other.path new
    → diff_lines (one ∷ old) (other ∷ new) ≡ altered_line one other ++ diff_lines old new
unfolding diff_lines
first_both one other old new same h k =
    ap (λ all. flat_map change_line (sort_by change_cmp all))
    (λ i. signed 45 (gone-both one other old new same h i) ++ signed 43 (gone-both other one new old (sym same) k' i) ++ signed 126 (altered-both one other old new same k' h i))
    ∙ by (same_record one.rec other.rec) where
      k' : Behind one.path new
      k' = let P : Components → Type 0 = λ path. Behind path new in subst P (sym same) k

      front : List Change
      front = signed 45 (gone old new) ++ signed 43 (come old new)

      by : (b : Bool) → flat_map change_line (sort_by change_cmp (front ++ signed 126 (cond (not b) (other ∷ altered old new) (altered old new))))
          ≡ cond b [] (change_line (said 126 other)) ++ flat_map change_line (sort_by change_cmp (changes old new))
      by true = refl
      by false = first_line (said 126 other) front (signed 126 (altered old new)) (changes_behind other.path old new h k)
