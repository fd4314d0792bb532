-- The lines of a generated trace, from their parts.
use Rattle.std.proofs.Common.{◌≡◌, ℕ, suc, zero, ◌+◌, ◌-◌, ◌<◌, ◌≤◌, List, [], ◌∷◌, ◌++◌, map, refl, sym, ap, ◌∙◌, arith, append_assoc}
use Rattle.std.specs.Prelude.{◌/◌, ◌%◌, decimal}
use Rattle.std.specs.List.{flat_map, range_with_len}
use Rattle.std.proofs.lemmas.List.{append-nil}
use Rattle.std.proofs.lemmas.List.Concat.{flat_map-append}
use Rattle.std.proofs.lemmas.List.Folds.{flat_map-map}
use Rattle.gufi_base.specs.Paths.{Components, slashed_text}
use Rattle.gufi_line.specs.TraceRows.{row_line}
use Rattle.gufi_tree.specs.declared.tree.Entry.{Entry}
use Rattle.gufi_tree.specs.Tree.{Directory, dir_row, entry_row, own_rows}
use Rattle.gufi_line.specs.LineParts.{rec_text}
use Rattle.gufi_line.proofs.Writes.{line_text}
use Rattle.gufi_gen.specs.Generated.{path_within, directory_path, directory_meta, entry_meta, linkless, made_file, made_dir, made_root, gen_text}
use Rattle.gufi_gen.specs.Lines.{made_path_text, directory_line, entry_line, entry_lines, stanza_text}

-- more fuel than the number gives the same path
pub fuel_same : (f g i : ℕ) → i ≤ f → i ≤ g → path_within f i ≡ path_within g i
fuel_same zero zero i h k = refl
fuel_same zero (suc g) zero h k = refl
fuel_same zero (suc g) (suc i) h k = absurd (omega (arith, h))
fuel_same (suc f) zero zero h k = refl
fuel_same (suc f) zero (suc i) h k = absurd (omega (arith, k))
fuel_same (suc f) (suc g) zero h k = refl
fuel_same (suc f) (suc g) (suc i) h k = ap (λ (p : Components). p ++ (100 ∷ decimal (suc i)) ∷ []) (fuel_same f g (i / 8) (omega (arith, h)) (omega (arith, k)))

slashed-more : (path : Components) (name : List ℕ) → slashed_text (path ++ name ∷ []) ≡ slashed_text path ++ 47 ∷ name
slashed-more path name = flat_map-append (λ (n : List ℕ). 47 ∷ n) path (name ∷ []) ∙ ap (λ (t : List ℕ). slashed_text path ++ 47 ∷ t) (append-nil name)

-- the names of a directory are those of its parent, and its own
pub names_text : (n : ℕ) → 0 < n → slashed_text (directory_path n) ≡ slashed_text (directory_path ((n - 1) / 8)) ++ (47 ∷ 100 ∷ decimal n)
names_text zero h = absurd (omega (arith, h))
names_text (suc i) h =
    let e : suc i - 1 ≡ i = omega arith in
    rw e (ap (λ (p : Components). slashed_text (p ++ (100 ∷ decimal (suc i)) ∷ [])) (fuel_same i (i / 8) (i / 8) (omega arith) (omega arith)) ∙ slashed-more (directory_path (i / 8)) (100 ∷ decimal (suc i)))

-- the line of a directory, and of an entry
pub directory_parts : (delim i : ℕ) → directory_line delim i ≡ made_path_text i ++ rec_text delim (linkless (directory_meta i))
unfolding made_path_text
directory_parts delim i = line_text delim made_root (dir_row (made_dir i))

pub entry_parts : (delim i j : ℕ) → entry_line delim i j ≡ made_path_text i ++ (47 ∷ 102 ∷ decimal j ++ rec_text delim (linkless (entry_meta i j)))
unfolding made_path_text
entry_parts delim i j =
    let name = 102 ∷ decimal j in
    let rest = rec_text delim (linkless (entry_meta i j)) in
    line_text delim made_root (entry_row (directory_path i) (made_file i j))
    ∙ ap (λ (t : List ℕ). (47 ∷ 103 ∷ t) ++ rest) (slashed-more (directory_path i) name)
    ∙ append_assoc (47 ∷ 103 ∷ slashed_text (directory_path i)) (47 ∷ name) rest

-- one number more
flat_suc : (f : ℕ → List ℕ) (a n j : ℕ) → a + n ≡ j → flat_map f (range_with_len a (suc n)) ≡ flat_map f (range_with_len a n) ++ f j
flat_suc f a zero j e = append-nil (f a) ∙ ap f (omega (arith, e))
flat_suc f a (suc n) j e = ap (λ (t : List ℕ). f a ++ t) (flat_suc f (a + 1) n j (omega (arith, e))) ∙ sym (append_assoc (f a) (flat_map f (range_with_len (a + 1) n)) (f j))

pub flat_more : (f : ℕ → List ℕ) (n : ℕ) → flat_map f (range_with_len 0 (n + 1)) ≡ flat_map f (range_with_len 0 n) ++ f n
flat_more f n =
    let next : n + 1 ≡ suc n = omega arith in
    rw next (flat_suc f 0 n n (omega arith))

pub stanza_parts : (delim i : ℕ) → stanza_text delim i ≡ directory_line delim i ++ entry_lines delim i (i % 5)
stanza_parts delim i =
    let line = row_line delim made_root in
    let entries = range_with_len 0 (i % 5) in
    ap (λ (t : List ℕ). directory_line delim i ++ t)
    (flat_map-map line (entry_row (directory_path i)) (map (made_file i) entries) ∙ flat_map-map (λ (e : Entry). line (entry_row (directory_path i) e)) (made_file i) entries)

pub gen_more : (n delim : ℕ) → gen_text (n + 1) delim ≡ gen_text n delim ++ stanza_text delim n
unfolding gen_text
gen_more n delim =
    let stanza = λ (d : Directory). flat_map (row_line delim made_root) (own_rows d) in
    flat_map-map stanza made_dir (range_with_len 0 (n + 1)) ∙ flat_more (stanza_text delim) n
    ∙ ap (λ (t : List ℕ). t ++ stanza_text delim n) (sym (flat_map-map stanza made_dir (range_with_len 0 n)))
