-- What is looked for before a tree is written: the delimiter, and paths that are too long.
use Rattle.std.proofs.Common.{◌≡◌, ℕ, zero, suc, ◌+◌, ◌-◌, ◌<◌, ◌≤◌, Bool, true, false, ◌||◌, eqb, List, [], ◌∷◌, ◌++◌, length, map, take, get_or, refl, sym, ap, ◌∙◌, arith}
use Rattle.std.specs.List.{list_any, flat_map}
use Rattle.std.proofs.lemmas.Bool.{not-true, or_from, true≢false, false≢true}
use Rattle.std.proofs.lemmas.List.{length-append, map-append, append-nil, take_all, take_more}
use Rattle.std.proofs.lemmas.List.Concat.{flat_map-append}
use Rattle.std.proofs.lemmas.List.Folds.{list_any-append, list_any_more}
use Rattle.gufi_base.specs.declared.record.Rec.{Rec}
use Rattle.gufi_base.specs.declared.record.Row.{Row}
use Rattle.gufi_base.specs.Delimiters.{may_delimit}
use Rattle.gufi_base.specs.Paths.{Components, slashed_text, is_too_long}
use Rattle.gufi_line.specs.TraceRows.{row_line}
use Rattle.gufi_base.specs.PathTexts.{closed_names, kept_text}
use Rattle.gufi_base.proofs.Texts.{slashed_text-closed}
use Rattle.gufi_tree.specs.declared.tree.Entry.{Entry}
use Rattle.gufi_tree.specs.Tree.{Directory, own_rows, entry_row}
use Rattle.gufi_tree.specs.Places.{path_at}
use Rattle.gufi_line.specs.TraceRows.{holds_byte, rec_holds, row_holds}
use Rattle.gufi_trace.specs.Writing.{directory, own_holds, own_too_long, own_text, is_over}
use Rattle.gufi_line.proofs.FieldsBack.{plain_apart}

no_slash : (delim : ℕ) → may_delimit delim ≡ true → eqb 47 delim ≡ false
no_slash delim may = not-true _ (plain_apart delim 47 may refl)

or_nothing : (a : Bool) → (a || false) ≡ a
or_nothing true = refl
or_nothing false = refl

closed_holds : (delim : ℕ) → may_delimit delim ≡ true → (path : Components) → holds_byte delim (closed_names path) ≡ list_any (holds_byte delim) path
closed_holds delim may [] = refl
closed_holds delim may (name ∷ path) =
    list_any-append (λ b. eqb b delim) (name ++ 47 ∷ []) (closed_names path)
    ∙ ap (λ (x : Bool). x || holds_byte delim (closed_names path)) (list_any-append (λ b. eqb b delim) name (47 ∷ []) ∙ ap (λ (x : Bool). holds_byte delim name || (x || false)) (no_slash delim may) ∙ or_nothing (holds_byte delim name))
    ∙ ap (λ (x : Bool). holds_byte delim name || x) (closed_holds delim may path)

-- the delimiter stands in a kept text where it stands in a name
pub text_holds : (delim : ℕ) → may_delimit delim ≡ true → (path : Components) → holds_byte delim (kept_text path) ≡ list_any (holds_byte delim) path
text_holds delim may path = ap (λ (x : Bool). x || holds_byte delim (closed_names path)) (no_slash delim may) ∙ closed_holds delim may path

abbrev pub entry_holds : ℕ → Entry → Bool
entry_holds delim e = holds_byte delim e.name || rec_holds delim e.rec

entries_hold : (delim : ℕ) (path : Components) → list_any (holds_byte delim) path ≡ false → (es : List Entry) → list_any (row_holds delim) (map (entry_row path) es) ≡ list_any (entry_holds delim) es
entries_hold delim path none [] = refl
entries_hold delim path none (e ∷ es) =
    ap (λ (x : Bool). (x || rec_holds delim e.rec) || list_any (row_holds delim) (map (entry_row path) es))
    (list_any-append (holds_byte delim) path (e.name ∷ []) ∙ ap (λ (x : Bool). x || (holds_byte delim e.name || false)) none ∙ or_nothing (holds_byte delim e.name))
    ∙ ap (λ (x : Bool). entry_holds delim e || x) (entries_hold delim path none es)

pub own_holds-parts : (delim : ℕ) (path : Components) (rec : Rec) (es : List Entry)
    → own_holds delim (directory path rec es) ≡ (list_any (holds_byte delim) path || rec_holds delim rec || list_any (entry_holds delim) es)
own_holds-parts delim path rec es = by (list_any (holds_byte delim) path) refl
  where
    by : (b : Bool) → list_any (holds_byte delim) path ≡ b → (b || rec_holds delim rec || list_any (row_holds delim) (map (entry_row path) es)) ≡ (b || rec_holds delim rec || list_any (entry_holds delim) es)
    by true e = refl
    by false e = ap (λ (x : Bool). rec_holds delim rec || x) (entries_hold delim path e es)

-- lengths
too_long_is : (path : Components) → is_too_long path ≡ is_over (length path) (length (slashed_text path))
too_long_is [] = refl
too_long_is (name ∷ path) = refl

over_same : (m n j k : ℕ) → m ≡ n → j ≡ k → is_over m j ≡ is_over n k
over_same m n j k e f = ap (λ x. is_over x j) e ∙ ap (λ y. is_over n y) f

length-slashed : (root path : Components) → length (slashed_text (root ++ path)) ≡ length (slashed_text root) + length (slashed_text path)
length-slashed root path = ap length (flat_map-append (λ (n : List ℕ). 47 ∷ n) root path) ∙ length-append (slashed_text root) (slashed_text path)

pub length-kept_text : (path : Components) → length (kept_text path) ≡ length (slashed_text path) + 1
length-kept_text path = sym (ap length (slashed_text-closed path)) ∙ length-append (slashed_text path) (47 ∷ [])

one_name : (name : List ℕ) → length (slashed_text (name ∷ [])) ≡ 1 + length name
one_name name = let e = length-append (47 ∷ name) [] in omega (arith, e)

abbrev pub entry_over : ℕ → ℕ → Entry → Bool
entry_over names bytes e = is_over (names + 1) (bytes + (1 + length e.name))

entries_over : (root path : Components) (names bytes : ℕ) → names ≡ length root + length path → bytes ≡ length (slashed_text root) + length (slashed_text path) → (es : List Entry)
    → list_any (λ (row : Row). is_too_long (root ++ row.path)) (map (entry_row path) es) ≡ list_any (entry_over names bytes) es
entries_over root path names bytes n b [] = refl
entries_over root path names bytes n b (e ∷ es) =
    let child = path ++ e.name ∷ [] in
    let count : length (root ++ child) ≡ names + 1 = let i = length-append root child in let j = length-append path (e.name ∷ []) in omega (arith, i, j, n) in
    let size : length (slashed_text (root ++ child)) ≡ bytes + (1 + length e.name) = let i = length-slashed root child in let j = length-slashed path (e.name ∷ []) in let k = one_name e.name in omega (arith, i, j, k, b) in
    ap (λ (x : Bool). x || list_any (λ (row : Row). is_too_long (root ++ row.path)) (map (entry_row path) es)) (too_long_is (root ++ child) ∙ over_same _ _ _ _ count size)
    ∙ ap (λ (x : Bool). entry_over names bytes e || x) (entries_over root path names bytes n b es)

pub own_too_long-parts : (root path : Components) (rec : Rec) (es : List Entry) (names bytes : ℕ) → names ≡ length root + length path → bytes ≡ length (kept_text root) + length (kept_text path) - 2
    → own_too_long root (directory path rec es) ≡ (is_over names bytes || list_any (entry_over names bytes) es)
own_too_long-parts root path rec es names bytes n b =
    let exact : bytes ≡ length (slashed_text root) + length (slashed_text path) = let i = length-kept_text root in let j = length-kept_text path in omega (arith, i, j, b) in
    let count : length (root ++ path) ≡ names = let i = length-append root path in omega (arith, i, n) in
    let size : length (slashed_text (root ++ path)) ≡ bytes = let i = length-slashed root path in omega (arith, i, exact) in
    ap (λ (x : Bool). x || list_any (λ (row : Row). is_too_long (root ++ row.path)) (map (entry_row path) es)) (too_long_is (root ++ path) ∙ over_same _ _ _ _ count size)
    ∙ ap (λ (x : Bool). is_over names bytes || x) (entries_over root path names bytes n exact es)

-- directories at their places
pub any_rows : (q : Row → Bool) (tree : List Directory) → list_any q (flat_map own_rows tree) ≡ list_any (λ d. list_any q (own_rows d)) tree
any_rows q [] = refl
any_rows q (d ∷ ds) = list_any-append q (own_rows d) (flat_map own_rows ds) ∙ ap (λ (x : Bool). list_any q (own_rows d) || x) (any_rows q ds)

pub any_at : {X : Type 0} (p : X → Bool) (xs : List X) (i : ℕ) (d : X) → i < length xs → p (get_or xs i d) ≡ true → list_any p xs ≡ true
any_at p [] i d lt h = absurd (omega arith)
any_at p (x ∷ xs) zero d lt h = ap (λ (b : Bool). b || list_any p xs) h
any_at p (x ∷ xs) (suc i) d lt h = ap (λ (b : Bool). p x || b) (any_at p xs i d (omega arith) h) ∙ either (p x)
  where
    either : (b : Bool) → (b || true) ≡ true
    either true = refl
    either false = refl

-- one element more
module _ {X : Type 0} (p : X → Bool) (xs : List X) (i : ℕ) (x : X) (is : (d : X) → x ≡ get_or xs i d) (lt : i < length xs) where
  pub any_of : p x ≡ true → list_any p xs ≡ true
  any_of h = any_at p xs i x lt (ap p (sym (is x)) ∙ h)

  pub none_of : list_any p (take i xs) ≡ false → p x ≡ false → list_any p (take (i + 1) xs) ≡ false
  none_of before h = list_any_more p xs i x lt ∙ or_from _ _ before (ap p (sym (is x)) ∙ h)

pub directory_at : (tree : List Directory) (i : ℕ) (path : Components) (rec : Rec) (es : List Entry) → path ≡ path_at tree i → ((d : Directory) → rec ≡ (get_or tree i d).rec) → ((d : Directory) → es ≡ (get_or tree i d).entries) → i < length tree
    → (d : Directory) → get_or tree i d ≡ directory path rec es
directory_at [] i path rec es p r e lt d = absurd (omega arith)
directory_at (x ∷ tree) zero path rec es p r e lt d = let a : x.path ≡ path = sym p in let b : x.rec ≡ rec = sym (r d) in let c : x.entries ≡ es = sym (e d) in
    ap (λ (q : Components). directory q x.rec x.entries) a ∙ ap (λ (v : Rec). directory path v x.entries) b ∙ ap (λ (vs : List Entry). directory path rec vs) c
directory_at (x ∷ tree) (suc i) path rec es p r e lt d = directory_at tree i path rec es p r e (omega arith) d

-- one directory more
module _ (tree : List Directory) (i : ℕ) (path : Components) (rec : Rec) (es : List Entry) (p : path ≡ path_at tree i) (r : (d : Directory) → rec ≡ (get_or tree i d).rec) (e : (d : Directory) → es ≡ (get_or tree i d).entries) (lt : i < length tree) where
  abbrev here : Directory
  here = directory path rec es

  at_here : get_or tree i here ≡ here
  at_here = directory_at tree i path rec es p r e lt here

  pub any_here : (q : Directory → Bool) → q here ≡ true → list_any q tree ≡ true
  any_here q h = any_at q tree i here lt (ap q at_here ∙ h)

  pub none_more : (q : Directory → Bool) → list_any q (take i tree) ≡ false → q here ≡ false → list_any q (take (i + 1) tree) ≡ false
  none_more q before h = list_any_more q tree i here lt ∙ or_from _ _ before (ap q at_here ∙ h)

  pub text_more : (f : Directory → List ℕ) → flat_map f (take (i + 1) tree) ≡ flat_map f (take i tree) ++ f here
  text_more f =
      ap (flat_map f) (take_more tree i here lt ∙ ap (λ (d : Directory). take i tree ++ d ∷ []) at_here)
      ∙ flat_map-append f (take i tree) (here ∷ [])
      ∙ ap (λ (t : List ℕ). flat_map f (take i tree) ++ t) (append-nil (f here))

-- the line of one entry more
pub own_text_more : (delim : ℕ) (root path : Components) (rec : Rec) (es : List Entry) (i : ℕ) (e : Entry) (name : List ℕ) (r : Rec)
    → ((d : Entry) → e ≡ get_or es i d) → i < length es → name ≡ e.name → r ≡ e.rec
    → own_text delim root (directory path rec (take (i + 1) es)) ≡ own_text delim root (directory path rec (take i es)) ++ row_line delim root (record { path = path ++ name ∷ []; rec = r })
own_text_more delim root path rec es i e name r is lt n v =
    let more : take (i + 1) es ≡ take i es ++ e ∷ [] = take_more es i e lt ∙ ap (λ (x : Entry). take i es ++ x ∷ []) (sym (is e)) in
    let line = row_line delim root in
    let own = own_rows (directory path rec (take i es)) in
    let row : entry_row path e ≡ record { path = path ++ name ∷ []; rec = r } = ap (λ (m : List ℕ). record { path = path ++ m ∷ []; rec = e.rec }) (sym n) ∙ ap (λ (w : Rec). record { path = path ++ name ∷ []; rec = w }) (sym v) in
    ap (λ (xs : List Entry). own_text delim root (directory path rec xs)) more
    ∙ ap (λ (rows : List Row). flat_map line (record { path = path; rec = rec } ∷ rows)) (map-append (entry_row path) (take i es) (e ∷ []))
    ∙ flat_map-append line own (entry_row path e ∷ [])
    ∙ ap (λ (t : List ℕ). flat_map line own ++ t) (append-nil (line (entry_row path e)) ∙ ap line row)

pub none_all : {X : Type 0} (q : X → Bool) (xs : List X) (n : ℕ) → length xs ≤ n → list_any q (take n xs) ≡ false → list_any q xs ≡ false
none_all q xs n enough h = ap (list_any q) (sym (take_all n xs enough)) ∙ h

-- the first or the second
pub then_is : (a b whole : Bool) → a ≡ true → whole ≡ (a || b) → a ≡ whole
then_is true b whole e h = sym h
then_is false b whole e h = absurd (false≢true e)

pub else_is : (a b whole : Bool) → a ≡ false → whole ≡ (a || b) → b ≡ whole
else_is true b whole e h = absurd (true≢false e)
else_is false b whole e h = sym h

pub third_is : (a b c whole : Bool) → a ≡ false → b ≡ false → whole ≡ (a || b || c) → c ≡ whole
third_is true b c whole e f h = absurd (true≢false e)
third_is false true c whole e f h = absurd (true≢false f)
third_is false false c whole e f h = sym h
