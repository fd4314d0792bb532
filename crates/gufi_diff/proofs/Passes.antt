-- One step of the pass over two lists that ascend: the line that it adds, and what is left behind it.
use Rattle.std.proofs.Common.{◌≡◌, ◌⊎◌, ℕ, zero, suc, ◌+◌, ◌<◌, true, List, [], ◌∷◌, ◌++◌, length, drop, get_or, refl, sym, ap, ◌∙◌, arith, inl, inr, subst, append_assoc, length-drop, add-one, ◌-◌, ◌≤◌}
use Rattle.std.specs.declared.cmp.Ordering.TheVariants.{Less, Equal, Greater}
use Rattle.std.specs.Ordering.{ordering_reverse}
use Rattle.std.proofs.lemmas.List.{append-nil, drop_all}
use Rattle.std.proofs.Math.Seq.{drop-cons}
use Rattle.gufi_base.specs.declared.record.Row.{Row}
use Rattle.gufi_base.specs.Basics.{ascends}
use Rattle.gufi_base.specs.Paths.{Components}
use Rattle.gufi_base.specs.Rows.{row_cmp}
use Rattle.gufi_base.proofs.Orders.{path_cmp-Equal}
use Rattle.gufi_base.proofs.Prefixes.{rows_total}
use Rattle.gufi_base.proofs.SortedOnce.{ascends-tail, below_all}
use Rattle.gufi_base.specs.PathParts.{ArePartsOf}
use Rattle.gufi_rows.specs.PathLines.{path_line}
use Rattle.gufi_rows.specs.RowLists.{no_row}
use Rattle.gufi_rows.proofs.PathLists.{line-parts}
use Rattle.gufi_diff.specs.Changes.{change_line, diff_lines}
use Rattle.gufi_diff.specs.Passes.{altered_line, first_cmp}
use Rattle.gufi_diff.proofs.Firsts.{first_both, first_come, first_gone, said}
use Rattle.gufi_diff.proofs.Skips.{Behind}

ascends-drop : (i : ℕ) (rows : List Row) → ascends row_cmp rows ≡ true → ascends row_cmp (drop i rows) ≡ true
ascends-drop zero rows up = up
ascends-drop (suc i) [] up = refl
ascends-drop (suc i) (row ∷ rows) up = ascends-drop i rows (ascends-tail row_cmp rows_total row rows up)

cut : (rows : List Row) (i : ℕ) → i < length rows → drop i rows ≡ get_or rows i no_row ∷ drop (i + 1) rows
cut rows i h = rw add-one (drop-cons rows i no_row h)

-- the row that comes first comes before all that are left of the other list
less_behind : (one : Row) (old new : List Row) → first_cmp (one ∷ old) new ≡ Less → ascends row_cmp new ≡ true → Behind one.path new
less_behind one old [] e up = tt
less_behind one old (other ∷ new) e up = below_all row_cmp rows_total one (other ∷ new) (rw e up)

turned : (one other : Row) → row_cmp one other ≡ Greater → row_cmp other one ≡ Less
turned one other e = rows_total.antisymm other one ∙ ap ordering_reverse e

greater_behind : (other : Row) (old new : List Row) → first_cmp old (other ∷ new) ≡ Greater → ascends row_cmp old ≡ true → Behind other.path old
greater_behind other [] new e up = tt
greater_behind other (one ∷ old) new e up = let below : row_cmp other one ≡ Less = turned one other e in below_all row_cmp rows_total other (one ∷ old) (rw below up)

-- where a row comes first, its list has it
some_of_new : (old new : List Row) → first_cmp old new ≡ Greater → 0 < length old → 0 < length new
some_of_new [] new e h = absurd (omega arith)
some_of_new (one ∷ old) [] e h = absurd cc
some_of_new (one ∷ old) (other ∷ new) e h = omega arith

some_of_old : (old new : List Row) → first_cmp old new ≡ Less → 0 < length old
some_of_old [] new e = absurd cc
some_of_old (one ∷ old) new e = omega arith

some_of_both : (old new : List Row) → first_cmp old new ≡ Equal → (0 < length old) × (0 < length new)
some_of_both [] new e = absurd cc
some_of_both (one ∷ old) [] e = absurd cc
some_of_both (one ∷ old) (other ∷ new) e = (omega arith, omega arith)

module _ (old new : List Row) (i j : ℕ) where
  pub left_of_new : first_cmp (drop i old) (drop j new) ≡ Greater → (i < length old) ⊎ (j < length new) → j < length new
  left_of_new e (inl h) =
      let some : 0 < length (drop i old) = rw length-drop (omega arith) in
      omega (arith, rw length-drop at (some_of_new (drop i old) (drop j new) e some))
  left_of_new e (inr h) = h

  pub left_of_old : first_cmp (drop i old) (drop j new) ≡ Less → i < length old
  left_of_old e = omega (arith, rw length-drop at (some_of_old (drop i old) (drop j new) e))

  pub left_of_both : first_cmp (drop i old) (drop j new) ≡ Equal → (i < length old) × (j < length new)
  left_of_both e =
      let some = some_of_both (drop i old) (drop j new) e in
      let in_old : 0 < length old - i = rw length-drop at some.0 in
      let in_new : 0 < length new - j = rw length-drop at some.1 in
      (omega arith, omega arith)

  module _ (up : ascends row_cmp old ≡ true) (up' : ascends row_cmp new ≡ true) where
    in_old : i < length old → ascends row_cmp (get_or old i no_row ∷ drop (i + 1) old) ≡ true
    in_old h = rw (cut old i h) at (ascends-drop i old up)

    in_new : j < length new → ascends row_cmp (get_or new j no_row ∷ drop (j + 1) new) ≡ true
    in_new h = rw (cut new j h) at (ascends-drop j new up')

    pub gone_at : first_cmp (drop i old) (drop j new) ≡ Less → i < length old
        → diff_lines (drop i old) (drop j new) ≡ change_line (said 45 (get_or old i no_row)) ++ diff_lines (drop (i + 1) old) (drop j new)
    gone_at e h =
        let one : Row = get_or old i no_row in
        let rest : List Row = drop (i + 1) old in
        ap (λ rows. diff_lines rows (drop j new)) (cut old i h)
        ∙ first_gone one rest (drop j new) (below_all row_cmp rows_total one rest (in_old h)) (less_behind one rest (drop j new) (rw (cut old i h) at e) (ascends-drop j new up'))

    pub come_at : first_cmp (drop i old) (drop j new) ≡ Greater → j < length new
        → diff_lines (drop i old) (drop j new) ≡ change_line (said 43 (get_or new j no_row)) ++ diff_lines (drop i old) (drop (j + 1) new)
    come_at e h =
        let other : Row = get_or new j no_row in
        let rest : List Row = drop (j + 1) new in
        ap (diff_lines (drop i old)) (cut new j h)
        ∙ first_come other (drop i old) rest (greater_behind other (drop i old) rest (rw (cut new j h) at e) (ascends-drop i old up)) (below_all row_cmp rows_total other rest (in_new h))

    pub both_at : first_cmp (drop i old) (drop j new) ≡ Equal → i < length old → j < length new
        → diff_lines (drop i old) (drop j new) ≡ altered_line (get_or old i no_row) (get_or new j no_row) ++ diff_lines (drop (i + 1) old) (drop (j + 1) new)
    both_at e h k =
        let one : Row = get_or old i no_row in
        let other : Row = get_or new j no_row in
        let olds : List Row = drop (i + 1) old in
        let news : List Row = drop (j + 1) new in
        let tied : row_cmp one other ≡ Equal = rw (cut old i h, cut new j k) at e in
        let same : one.path ≡ other.path = path_cmp-Equal one.path other.path tied in
        let P : Components → Type 0 = λ path. Behind path olds in
        (λ n. diff_lines (cut old i h n) (cut new j k n))
        ∙ first_both one other olds news same (subst P same (below_all row_cmp rows_total one olds (in_old h))) (below_all row_cmp rows_total other news (in_new k))

-- the line of what is passed stands behind the text, before the lines that are left
pub passed_on : (text next line left rest : List ℕ) → next ≡ text ++ line → left ≡ line ++ rest → next ++ rest ≡ text ++ left
passed_on text next line left rest e f = ap (λ t. t ++ rest) e ∙ append_assoc text line rest ∙ ap (λ t. text ++ t) (sym f)

pub new_ends : (old new : List Row) (i j : ℕ) → i < length old → length new ≤ j → Less ≡ first_cmp (drop i old) (drop j new)
new_ends old new i j h k = rw (cut old i h, drop_all j new k) refl

-- where all is passed the text is whole
pub all_passed : (old new : List Row) (i j : ℕ) (text all : List ℕ) → length old ≤ i → length new ≤ j → text ++ diff_lines (drop i old) (drop j new) ≡ all → text ≡ all
unfolding diff_lines
all_passed old new i j text all h k e = sym (append-nil text) ∙ ap (λ t. text ++ t) (λ n. diff_lines (sym (drop_all i old h) n) (sym (drop_all j new k) n)) ∙ e

pub change-parts : (text front last : List ℕ) (sign : ℕ) (of : Row) → ArePartsOf front last of.path
    → ((((text ++ sign ∷ []) ++ 32 ∷ []) ++ front) ++ last) ++ 10 ∷ [] ≡ text ++ change_line (said sign of)
change-parts text front last sign of parts =
    line-parts front last ((text ++ sign ∷ []) ++ 32 ∷ []) of.path parts
    ∙ append_assoc (text ++ sign ∷ []) (32 ∷ []) (path_line of.path) ∙ append_assoc text (sign ∷ []) (32 ∷ path_line of.path)
