-- How many lines are directories' and entries', with one line more.
use Rattle.std.proofs.Common.{◌≡◌, ℕ, ◌+◌, ◌-◌, ◌<◌, ◌≤◌, Bool, true, false, not, cond, leb, List, [], ◌∷◌, ◌++◌, length, reverse, refl, sym, ap, subst, ◌∙◌, arith}
use Rattle.std.specs.Prelude.{Some, None, count_by}
use Rattle.std.specs.List.{sum_by}
use Rattle.std.proofs.lemmas.Bool.{cond-true, cond-false, leb-false, not_from_true, not_from_false}
use Rattle.std.proofs.lemmas.List.Sums.{sum_by-cons, sum_by-append}
use Rattle.std.proofs.lemmas.List.{reverse-append, length-reverse}
use Rattle.gufi_base.specs.declared.record.Kind.{Kind}
use Rattle.gufi_base.specs.declared.record.Line.{Line}
use Rattle.gufi_base.specs.Kinds.{is_dir}
use Rattle.gufi_base.specs.Limits.{max_dirs, max_entries}
use Rattle.gufi_base.specs.Paths.{Components}
use Rattle.gufi_tree.specs.Build.{is_dir_line}
use Rattle.gufi_tree.specs.StanzaLines.{stanza_holds}
use Rattle.gufi_line.specs.declared.fault.TraceKind.{TraceKind}
use Rattle.gufi_line.specs.declared.fault.TraceKind.TheVariants.{WrongStanza, TooMany}
use Rattle.gufi_line.specs.Lines.{dirs_of, entries_of, place_fault}
use Rattle.gufi_line.specs.Few.{AreFew}

pub reverse_push : (lines : List Line) (line : Line) → reverse (lines ++ line ∷ []) ≡ line ∷ reverse lines
reverse_push lines line = reverse-append lines (line ∷ [])

sum_by-reverse : (f : Line → ℕ) (lines : List Line) → sum_by f (reverse lines) ≡ sum_by f lines
sum_by-reverse f [] = refl
sum_by-reverse f (line ∷ lines) =
    let turned = ap (sum_by f) (reverse-append (line ∷ []) lines) ∙ sum_by-append f (reverse lines) (line ∷ []) in
    omega (arith, turned, sum_by-cons f line [], sum_by-cons f line lines, sum_by-reverse f lines)

pub count_reversed : (p : Line → Bool) (lines : List Line) → count_by p (reverse lines) ≡ count_by p lines
count_reversed p lines = sum_by-reverse (λ x. cond (p x) 1 0) lines

-- the place of a line, taken apart
room : (b : Bool) (kind : TraceKind) → cond b (Some kind) None ≡ None → b ≡ false
room true kind e = absurd cc
room false kind e = refl

pub dir_room : (earlier : List Line) (kind : Kind) (path : Components) → place_fault earlier kind path ≡ None → is_dir kind ≡ true → dirs_of earlier < max_dirs
unfolding place_fault
dir_room earlier kind path e dir = leb-false max_dirs (dirs_of earlier) (room (leb max_dirs (dirs_of earlier)) (TooMany max_dirs) (sym (cond-true (is_dir kind) _ _ dir) ∙ e))

inner : (s b : Bool) (kind other : TraceKind) → cond s (cond b (Some kind) None) (Some other) ≡ None → (s ≡ true) × (b ≡ false)
inner true b kind other e = (refl, room b kind e)
inner false b kind other e = absurd cc

pub entry_room : (earlier : List Line) (kind : Kind) (path : Components) → place_fault earlier kind path ≡ None → is_dir kind ≡ false → (stanza_holds earlier path ≡ true) × (entries_of earlier < max_entries)
unfolding place_fault
entry_room earlier kind path e entry =
    let both = inner (stanza_holds earlier path) (leb max_entries (entries_of earlier)) (TooMany max_entries) WrongStanza (sym (cond-false (is_dir kind) _ _ entry) ∙ e) in
    (both.0, leb-false max_entries (entries_of earlier) both.1)

pub some_lines : (earlier : List Line) (path : Components) → stanza_holds earlier path ≡ true → 0 < length earlier
some_lines [] path e = absurd cc
some_lines (line ∷ earlier) path e = omega arith

pub some_seen : (lines seen : List Line) (path : Components) → reverse lines ≡ seen → stanza_holds seen path ≡ true → 0 < length lines
some_seen lines seen path is e = omega (arith, some_lines seen path e, length-reverse lines, ap length is)

no_child : (b rest : Bool) → (rest ≡ true → ⊥) → cond b false rest ≡ true → ⊥
no_child true rest h e = absurd cc
no_child false rest h e = h e

-- the root is in no stanza
pub root_apart : (earlier : List Line) → stanza_holds earlier [] ≡ true → ⊥
root_apart [] e = absurd cc
root_apart (line ∷ earlier) e = no_child (is_dir_line line) (stanza_holds earlier []) (root_apart earlier) e

pub line_as : (line : Line) (n : ℕ) → line.number ≡ n → record { number = n; path = line.path; rec = line.rec } ≡ line
line_as line n e = ap (λ k. as_line k) (sym e)
  where
    as_line : ℕ → Line
    as_line k = record { number = k; path = line.path; rec = line.rec }

pub count_yes : (p : Line → Bool) (line : Line) (earlier : List Line) → p line ≡ true → count_by p (line ∷ earlier) ≡ 1 + count_by p earlier
count_yes p line earlier h = sum_by-cons (λ x. cond (p x) 1 0) line earlier ∙ ap (λ n. n + count_by p earlier) (cond-true (p line) 1 0 h)

pub count_no : (p : Line → Bool) (line : Line) (earlier : List Line) → p line ≡ false → count_by p (line ∷ earlier) ≡ 0 + count_by p earlier
count_no p line earlier h = sum_by-cons (λ x. cond (p x) 1 0) line earlier ∙ ap (λ n. n + count_by p earlier) (cond-false (p line) 1 0 h)

one_of_two : (b : Bool) → cond b 1 0 + cond (not b) 1 0 ≡ 1
one_of_two true = refl
one_of_two false = refl

both_counted : (lines : List Line) → dirs_of lines + entries_of lines ≡ length lines
both_counted [] = refl
both_counted (line ∷ lines) =
    omega (arith, sum_by-cons (λ x. cond (is_dir_line x) 1 0) line lines, sum_by-cons (λ x. cond (not (is_dir_line x)) 1 0) line lines, one_of_two (is_dir_line line), both_counted lines)

-- lines in order of coming, and as they are seen, the newest first
pub few_lines : (lines : List Line) → AreFew (reverse lines) → length lines ≤ max_dirs + max_entries
few_lines lines h = omega (arith, h.dirs, h.entries, both_counted (reverse lines), length-reverse lines)

pub dirs_seen : (lines seen : List Line) (dirs : ℕ) → dirs ≡ count_by is_dir_line lines → reverse lines ≡ seen → dirs ≡ dirs_of seen
dirs_seen lines seen dirs e is = e ∙ sym (count_reversed is_dir_line lines) ∙ ap dirs_of is

pub entries_seen : (lines seen : List Line) (count dirs : ℕ) → count ≡ length lines → dirs + count_by (λ x. not (is_dir_line x)) lines ≡ length lines → reverse lines ≡ seen → count - dirs ≡ entries_of seen
entries_seen lines seen count dirs all e is =
    let entries : entries_of seen ≡ count_by (λ x. not (is_dir_line x)) lines = ap entries_of (sym is) ∙ count_reversed (λ x. not (is_dir_line x)) lines in
    omega (arith, all, e, entries)

few_none : AreFew []
few_none = record { dirs = omega arith; entries = omega arith }

few_dir : (earlier : List Line) (line : Line) → AreFew earlier → is_dir_line line ≡ true → dirs_of earlier < max_dirs → AreFew (line ∷ earlier)
few_dir earlier line h dir few = record {
  dirs = omega (arith, count_yes is_dir_line line earlier dir);
  entries = omega (arith, count_no (λ x. not (is_dir_line x)) line earlier (not_from_true _ dir), h.entries);
}

few_entry : (earlier : List Line) (line : Line) → AreFew earlier → is_dir_line line ≡ false → entries_of earlier < max_entries → AreFew (line ∷ earlier)
few_entry earlier line h entry few = record {
  dirs = omega (arith, count_no is_dir_line line earlier entry, h.dirs);
  entries = omega (arith, count_yes (λ x. not (is_dir_line x)) line earlier (not_from_false _ entry));
}

pub few_forgotten : (lines : List Line) → lines ≡ [] → AreFew (reverse lines)
few_forgotten lines e = subst (λ (ls : List Line). AreFew (reverse ls)) (sym e) few_none

pub few_dir_push : (lines new seen : List Line) (line : Line) → new ≡ lines ++ line ∷ [] → reverse lines ≡ seen → AreFew (reverse lines) → is_dir_line line ≡ true → dirs_of seen < max_dirs → AreFew (reverse new)
few_dir_push lines new seen line e is h dir few =
    subst AreFew (sym (ap reverse e ∙ reverse_push lines line)) (few_dir (reverse lines) line h dir (subst (λ (ls : List Line). dirs_of ls < max_dirs) (sym is) few))

pub few_entry_push : (lines new seen : List Line) (line : Line) → new ≡ lines ++ line ∷ [] → reverse lines ≡ seen → AreFew (reverse lines) → is_dir_line line ≡ false → entries_of seen < max_entries → AreFew (reverse new)
few_entry_push lines new seen line e is h entry few =
    subst AreFew (sym (ap reverse e ∙ reverse_push lines line)) (few_entry (reverse lines) line h entry (subst (λ (ls : List Line). entries_of ls < max_entries) (sym is) few))
