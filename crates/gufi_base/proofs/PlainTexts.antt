-- Bytes that are names with single slashes between them.
use Rattle.std.proofs.Common.{◌≡◌, ◌≢◌, ℕ, ◌+◌, ◌*◌, ◌≤◌, Bool, true, false, cond, eqb, List, [], ◌∷◌, ◌++◌, length, Some, None, Ok, refl, sym, ap, subst, ◌∙◌, arith, append_assoc, ⊎_elim}
use Rattle.std.specs.Prelude.{not, ◌&&◌, ◌||◌, filter, bytes_eq, nat_lt, nat_le}
use Rattle.std.specs.List.{list_all, list_any, onto_first}
use Rattle.std.proofs.lemmas.Bool.{cond-true, cond-false, and_parts, and_from, not_from_false, not-true, or_parts, or_left, or_right, cases_Bool, false≢true, le-leb, le-ltb, leb-true, eqb-true, eq-eqb}
use Rattle.std.proofs.lemmas.List.{append-nil, length-append}
use Rattle.std.proofs.lemmas.Slice.Eq.{bytes_eq-Decides}
use Rattle.gufi_base.specs.Basics.{split, all_but_last, last_of, is_empty}
use Rattle.gufi_base.specs.Names.{dot, dot_dot, is_path_byte, is_name_byte, is_name}
use Rattle.gufi_base.proofs.Cuts.{split_some, close_split, all_but_last_and_last}
use Rattle.gufi_base.specs.declared.plain.Reached.{Reached}
use Rattle.gufi_base.specs.declared.plain.Reached.TheVariants.{Start, Dot, Inside}
use Rattle.gufi_base.specs.PlainTexts.{after}
use Rattle.gufi_base.specs.PathTexts.{closed_names, kept_text, names, IsText}
use Rattle.gufi_base.specs.Limits.{max_name}
use Rattle.gufi_base.specs.Paths.{Components, is_dropped, kept_parts, read_path}
use Rattle.gufi_base.proofs.Names.{is_too_large, read_path-ok, name_bytes, IsText-kept_text, names-kept_text}
use Rattle.gufi_base.proofs.Texts.{kept_text_push}
use Rattle.std.specs.Prelude.{◌⊎◌}
use Rattle.std.proofs.Common.{inl, inr}

-- the parts behind bytes that the first of them has already
abbrev with_front : List ℕ → List (List ℕ) → List (List ℕ)
with_front front [] = front ∷ []
with_front front (part ∷ parts) = (front ++ part) ∷ parts

with_front-onto : (front : List ℕ) (b : ℕ) (parts : List (List ℕ)) → with_front front (onto_first b parts) ≡ with_front (front ++ b ∷ []) parts
with_front-onto front b [] = refl
with_front-onto front b (part ∷ parts) = ap (λ (t : List ℕ). t ∷ parts) (sym (append_assoc front (b ∷ []) part))

-- what is known of the bytes of a component so far
abbrev Comes : Reached → List ℕ → Type 0
Comes Start front = front ≡ []
Comes Dot front = front ≡ dot
Comes Inside front = (front ≢ []) × (front ≢ dot) × (front ≢ dot_dot)

-- the bytes up to here leave it to the rest whether all parts are names
pub record Scanned (bytes : List ℕ) (reached : Reached) (place : ℕ) (rest : List ℕ) : Type 0 where
  pub front : List ℕ
  pub leads : list_all is_name (with_front front (split 47 rest)) ≡ true → list_all is_name (split 47 bytes) ≡ true
  pub clean : list_all is_name_byte front ≡ true
  pub short : length front ≤ place
  pub comes : Comes reached front

some_is : {a b : Reached} → Some a ≡ Some b → a ≡ b
some_is e = cc

none_some : {a : Reached} → Some a ≡ None → ⊥
none_some e = cc

start_leads : (parts : List (List ℕ)) → (parts ≡ [] → ⊥) → list_all is_name (with_front [] parts) ≡ true → list_all is_name parts ≡ true
start_leads [] some h = absurd (some refl)
start_leads (part ∷ parts) some h = h

begin : (front bytes : List ℕ) (b : ℕ) (rest : List ℕ) → eqb b 47 ≡ false
    → (list_all is_name (with_front front (split 47 (b ∷ rest))) ≡ true → list_all is_name (split 47 bytes) ≡ true)
    → list_all is_name (with_front (front ++ b ∷ []) (split 47 rest)) ≡ true → list_all is_name (split 47 bytes) ≡ true
begin front bytes b rest e leads h =
    leads (ap (λ (ps : List (List ℕ)). list_all is_name (with_front front ps)) (cond-false (eqb b 47) ([] ∷ split 47 rest) (onto_first b (split 47 rest)) e) ∙ ap (list_all is_name) (with_front-onto front b (split 47 rest)) ∙ h)

name_byte : (b : ℕ) → eqb b 0 ≡ false → eqb b 10 ≡ false → eqb b 47 ≡ false → is_name_byte b ≡ true
name_byte b zero line slash = and_from _ _ (and_from _ _ (not_from_false _ zero) (not_from_false _ line)) (not_from_false _ slash)

clean_push : (front : List ℕ) (b : ℕ) → list_all is_name_byte front ≡ true → is_name_byte b ≡ true → list_all is_name_byte (front ++ b ∷ []) ≡ true
clean_push [] b h k = and_from _ _ k refl
clean_push (x ∷ front) b h k =
    let both = and_parts _ _ h in
    and_from _ _ both.0 (clean_push front b both.1 k)

-- one byte more of a component
pub Scanned-byte : (bytes : List ℕ) (reached next : Reached) (place b : ℕ) (rest : List ℕ) → Scanned bytes reached place (b ∷ rest)
    → eqb b 0 ≡ false → eqb b 10 ≡ false → eqb b 47 ≡ false → ((front : List ℕ) → Comes reached front → Comes next (front ++ b ∷ [])) → Scanned bytes next (place + 1) rest
Scanned-byte bytes reached next place b rest s zero line slash comes =
    record {
      front = s.front ++ b ∷ [];
      leads = begin s.front bytes b rest slash s.leads;
      clean = clean_push s.front b s.clean (name_byte b zero line slash);
      short = omega (arith, s.short, length-append s.front (b ∷ []));
      comes = comes s.front s.comes;
    }

no_empty : (front : List ℕ) → front ≢ [] → not (is_empty front) ≡ true
no_empty [] some = absurd (some refl)
no_empty (b ∷ front) some = refl

apart : (a b : List ℕ) → a ≢ b → bytes_eq a b ≡ false
apart a b ne = ⊎_elim (λ (t : bytes_eq a b ≡ true). absurd (ne ((bytes_eq-Decides a b).0 t))) (λ f. f) (cases_Bool (bytes_eq a b))

neither : (a b : Bool) → a ≡ false → b ≡ false → not (a || b) ≡ true
neither true b p q = absurd cc
neither false true p q = absurd cc
neither false false p q = refl

whole_name : (front : List ℕ) (place : ℕ) → list_all is_name_byte front ≡ true → length front ≤ place → place ≤ 255 → Comes Inside front → is_name front ≡ true
whole_name front place clean short few comes =
    and_from _ _ (and_from _ _ (and_from _ _ (no_empty front comes.0) (le-leb _ _ (omega arith))) clean) (neither _ _ (apart front dot comes.1) (apart front dot_dot comes.2))

slash_leads : (front bytes : List ℕ) (b : ℕ) (rest : List ℕ) → eqb b 47 ≡ true → is_name front ≡ true
    → (list_all is_name (with_front front (split 47 (b ∷ rest))) ≡ true → list_all is_name (split 47 bytes) ≡ true)
    → list_all is_name (with_front [] (split 47 rest)) ≡ true → list_all is_name (split 47 bytes) ≡ true
slash_leads front bytes b rest e name leads h =
    leads (ap (λ (ps : List (List ℕ)). list_all is_name (with_front front ps)) (cond-true (eqb b 47) ([] ∷ split 47 rest) (onto_first b (split 47 rest)) e)
    ∙ ap (λ (t : List ℕ). list_all is_name (t ∷ split 47 rest)) (append-nil front) ∙ and_from _ _ name (start_leads (split 47 rest) (split_some 47 rest) h))

-- a slash behind a name
Scanned-slash : (bytes : List ℕ) (place b : ℕ) (rest : List ℕ) → Scanned bytes Inside place (b ∷ rest) → eqb b 47 ≡ true → place ≤ 255 → Scanned bytes Start 0 rest
Scanned-slash bytes place b rest s slash few =
    record {
      front = [];
      leads = slash_leads s.front bytes b rest slash (whole_name s.front place s.clean s.short few s.comes) s.leads;
      clean = refl;
      short = omega arith;
      comes = refl;
    }

pub Scanned-end : (bytes : List ℕ) (place : ℕ) → Scanned bytes Inside place [] → place ≤ 255 → list_all is_name (split 47 bytes) ≡ true
Scanned-end bytes place s few =
    s.leads (ap (λ (t : List ℕ). list_all is_name (t ∷ [])) (append-nil s.front) ∙ and_from _ _ (whole_name s.front place s.clean s.short few s.comes) refl)

inside_start : (b : ℕ) → eqb b 46 ≡ false → (front : List ℕ) → front ≡ [] → Comes Inside (front ++ b ∷ [])
inside_start b other [] e = ((λ h. cc), (λ h. let k : b ≡ 46 = cc in false≢true (sym other ∙ eq-eqb b 46 k)), (λ h. cc))
inside_start b other (x ∷ front) e = absurd cc

inside_dot : (b : ℕ) → eqb b 46 ≡ false → (front : List ℕ) → front ≡ dot → Comes Inside (front ++ b ∷ [])
inside_dot b other [] e = absurd cc
inside_dot b other (x ∷ []) e = ((λ h. cc), (λ h. cc), (λ h. let k : b ≡ 46 = cc in false≢true (sym other ∙ eq-eqb b 46 k)))
inside_dot b other (x ∷ y ∷ front) e = absurd cc

inside_more : (b : ℕ) (front : List ℕ) → Comes Inside front → Comes Inside (front ++ b ∷ [])
inside_more b [] h = absurd (h.0 refl)
inside_more b (x ∷ []) h = ((λ e. cc), (λ e. cc), (λ e. let k : x ≡ 46 = cc in h.1 (ap (λ (z : ℕ). z ∷ []) k)))
inside_more b (x ∷ y ∷ []) h = ((λ e. cc), (λ e. cc), (λ e. cc))
inside_more b (x ∷ y ∷ z ∷ front) h = ((λ e. cc), (λ e. cc), (λ e. cc))

one_dot : (b : ℕ) → eqb b 46 ≡ true → (front : List ℕ) → front ≡ [] → Comes Dot (front ++ b ∷ [])
one_dot b is [] e = ap (λ (z : ℕ). z ∷ []) (eqb-true b 46 is)
one_dot b is (x ∷ front) e = absurd cc

three : (a b c : Bool) → ((a || b) || c) ≡ false → (a ≡ false) × (b ≡ false) × (c ≡ false)
three true b c e = absurd cc
three false true c e = absurd cc
three false false c e = (refl, refl, e)

-- the step of the scan, at a byte of a name
pub Scanned-more : (bytes : List ℕ) (reached next : Reached) (place b : ℕ) (rest : List ℕ) → Scanned bytes reached place (b ∷ rest) → Some next ≡ after reached b → eqb b 47 ≡ false → Scanned bytes next (place + 1) rest
Scanned-more bytes Start next place b rest s e other =
    ⊎_elim (λ (t : (eqb b 0 || eqb b 10 || eqb b 47) ≡ true). absurd (none_some (e ∙ cond-true _ None _ t)))
    (λ (t : (eqb b 0 || eqb b 10 || eqb b 47) ≡ false).
    let apart = three _ _ _ t in
    let left = e ∙ cond-false _ None _ t in
    ⊎_elim (λ (d : eqb b 46 ≡ true).
    let is : next ≡ Dot = some_is (left ∙ cond-true _ (Some Dot) (Some Inside) d) in
    rw is (Scanned-byte bytes Start Dot place b rest s apart.0 apart.1 apart.2 (one_dot b d)))
    (λ (d : eqb b 46 ≡ false).
    let is : next ≡ Inside = some_is (left ∙ cond-false _ (Some Dot) (Some Inside) d) in
    rw is (Scanned-byte bytes Start Inside place b rest s apart.0 apart.1 apart.2 (inside_start b d)))
    (cases_Bool (eqb b 46)))
    (cases_Bool (eqb b 0 || eqb b 10 || eqb b 47))
Scanned-more bytes Dot next place b rest s e other =
    ⊎_elim (λ (t : (eqb b 0 || eqb b 10 || eqb b 47 || eqb b 46) ≡ true). absurd (none_some (e ∙ cond-true _ None _ t)))
    (λ (t : (eqb b 0 || eqb b 10 || eqb b 47 || eqb b 46) ≡ false).
    let parts = or_parts _ _ t in
    let apart = three _ _ _ parts.0 in
    let is : next ≡ Inside = some_is (e ∙ cond-false _ None (Some Inside) t) in
    rw is (Scanned-byte bytes Dot Inside place b rest s apart.0 apart.1 apart.2 (inside_dot b parts.1)))
    (cases_Bool (eqb b 0 || eqb b 10 || eqb b 47 || eqb b 46))
Scanned-more bytes Inside next place b rest s e other =
    ⊎_elim (λ (t : (eqb b 0 || eqb b 10) ≡ true). absurd (none_some (e ∙ cond-true _ None _ t)))
    (λ (t : (eqb b 0 || eqb b 10) ≡ false).
    let apart = or_parts _ _ t in
    let left = e ∙ cond-false _ None _ t in
    let is : next ≡ Inside = some_is (left ∙ cond-false _ (Some Start) (Some Inside) other) in
    rw is (Scanned-byte bytes Inside Inside place b rest s apart.0 apart.1 other (inside_more b)))
    (cases_Bool (eqb b 0 || eqb b 10))

is_slash : (a b c : Bool) → c ≡ true → (a || b || c) ≡ true
is_slash a b c e = or_right _ _ e

-- the same at a slash
pub Scanned-close : (bytes : List ℕ) (reached next : Reached) (place b : ℕ) (rest : List ℕ) → Scanned bytes reached place (b ∷ rest) → Some next ≡ after reached b → eqb b 47 ≡ true → place ≤ 255 → Scanned bytes next 0 rest
Scanned-close bytes Start next place b rest s e slash few = absurd (none_some (e ∙ cond-true _ None _ (is_slash (eqb b 0) (eqb b 10) (eqb b 47) slash)))
Scanned-close bytes Dot next place b rest s e slash few = absurd (none_some (e ∙ cond-true _ None _ (or_left _ _ (is_slash (eqb b 0) (eqb b 10) (eqb b 47) slash))))
Scanned-close bytes Inside next place b rest s e slash few =
    ⊎_elim (λ (t : (eqb b 0 || eqb b 10) ≡ true). absurd (none_some (e ∙ cond-true _ None _ t)))
    (λ (t : (eqb b 0 || eqb b 10) ≡ false).
    let left = e ∙ cond-false _ None _ t in
    let is : next ≡ Start = some_is (left ∙ cond-true _ (Some Start) (Some Inside) slash) in
    rw is (Scanned-slash bytes place b rest s slash few))
    (cases_Bool (eqb b 0 || eqb b 10))

closes : (bytes : List ℕ) (parts : List (List ℕ)) → (parts ≡ [] → ⊥) → closed_names (all_but_last parts) ++ last_of [] parts ≡ bytes → 47 ∷ (bytes ++ 47 ∷ []) ≡ kept_text parts
closes bytes [] some e = absurd (some refl)
closes bytes (part ∷ parts) some e =
    let front = all_but_last (part ∷ parts) in
    let last = last_of [] (part ∷ parts) in
    ap (λ (t : List ℕ). 47 ∷ (t ++ 47 ∷ [])) (sym e) ∙ ap (λ (t : List ℕ). 47 ∷ t) (append_assoc (closed_names front) last (47 ∷ []))
    ∙ sym (kept_text_push front last) ∙ ap kept_text (all_but_last_and_last [] part parts)

-- bytes between two slashes are the kept text of their parts
pub closed_bytes : (bytes : List ℕ) → 47 ∷ (bytes ++ 47 ∷ []) ≡ kept_text (split 47 bytes)
closed_bytes bytes = closes bytes (split 47 bytes) (split_some 47 bytes) (close_split 47 bytes)

-- names are kept, and none of them is a fault
kept_name : (name : List ℕ) → is_name name ≡ true → not (is_dropped name) ≡ true
kept_name name h =
    let whole : (not (is_empty name) && nat_le (length name) max_name && list_all is_name_byte name ≡ true) × (not (bytes_eq name dot || bytes_eq name dot_dot) ≡ true) = and_parts _ _ h in
    let front : (not (is_empty name) && nat_le (length name) max_name ≡ true) × (list_all is_name_byte name ≡ true) = and_parts _ _ whole.0 in
    let some : (not (is_empty name) ≡ true) × (nat_le (length name) max_name ≡ true) = and_parts _ _ front.0 in
    let dots : (bytes_eq name dot ≡ false) × (bytes_eq name dot_dot ≡ false) = or_parts _ _ (not-true _ whole.1) in
    neither (is_empty name) (bytes_eq name dot) (not-true _ some.0) dots.0

kept_all : (path : Components) → list_all is_name path ≡ true → filter (λ part. not (is_dropped part)) path ≡ path
kept_all [] h = refl
kept_all (name ∷ path) h =
    let both = and_parts _ _ h in
    cond-true _ (name ∷ filter (λ part. not (is_dropped part)) path) _ (kept_name name both.0) ∙ ap (λ (p : Components). name ∷ p) (kept_all path both.1)

either_no : (a b : Bool) → a ≡ false → b ≡ false → (a || b) ≡ false
either_no true b p q = absurd cc
either_no false b p q = q

no_dots : (path : Components) → list_all is_name path ≡ true → list_any (bytes_eq dot_dot) path ≡ false
no_dots [] h = refl
no_dots (name ∷ path) h =
    let both = and_parts _ _ h in
    either_no _ _ (apart dot_dot name (λ e. false≢true (sym (or_parts _ _ (not-true _ (and_parts _ _ both.0).1)).1 ∙ (bytes_eq-Decides name dot_dot).1 (sym e)))) (no_dots path both.1)

no_long : (path : Components) → list_all is_name path ≡ true → list_any (λ name. nat_lt max_name (length name)) path ≡ false
no_long [] h = refl
no_long (name ∷ path) h =
    let both = and_parts _ _ h in
    let short : length name ≤ max_name = leb-true _ _ (and_parts _ _ (and_parts _ _ (and_parts _ _ both.0).0).0).1 in
    either_no _ _ (le-ltb _ _ short) (no_long path both.1)

bad_cond : (b : ℕ) (t : Bool) (bytes : List ℕ) (parts : List (List ℕ)) → eqb b 47 ≡ t → (parts ≡ [] → ⊥) → (list_all (list_all is_name_byte) parts ≡ true → list_any (λ b. not (is_path_byte b)) bytes ≡ false)
    → list_all (list_all is_name_byte) (cond t ([] ∷ parts) (onto_first b parts)) ≡ true → list_any (λ b. not (is_path_byte b)) (b ∷ bytes) ≡ false
bad_cond b true bytes parts e some rest h = either_no _ _ (ap (λ k. not (is_path_byte k)) (eqb-true b 47 e)) (rest h)
bad_cond b false bytes [] e some rest h = absurd (some refl)
bad_cond b false bytes (part ∷ parts) e some rest h =
    let both = and_parts _ _ h in
    let first = and_parts _ _ both.0 in
    either_no _ _ (ap not (and_parts _ _ first.0).0) (rest (and_from _ _ first.1 both.1))

no_bad : (bytes : List ℕ) → list_all (list_all is_name_byte) (split 47 bytes) ≡ true → list_any (λ b. not (is_path_byte b)) bytes ≡ false
no_bad [] h = refl
no_bad (b ∷ bytes) h = bad_cond b (eqb b 47) bytes (split 47 bytes) refl (split_some 47 bytes) (no_bad bytes) h

all_bytes : (path : Components) → list_all is_name path ≡ true → list_all (list_all is_name_byte) path ≡ true
all_bytes [] h = refl
all_bytes (name ∷ path) h =
    let both = and_parts _ _ h in
    and_from _ _ (name_bytes name both.0) (all_bytes path both.1)

-- the bytes that parts take, each with a byte between it and the next
abbrev room : List (List ℕ) → ℕ
room [] = 0
room (part ∷ parts) = length part + 1 + room parts

room_cond : (b : ℕ) (t : Bool) (parts : List (List ℕ)) → (parts ≡ [] → ⊥) → room (cond t ([] ∷ parts) (onto_first b parts)) ≡ room parts + 1
room_cond b true parts some = omega arith
room_cond b false [] some = absurd (some refl)
room_cond b false (part ∷ parts) some = omega arith

room_split : (bytes : List ℕ) → room (split 47 bytes) ≡ length bytes + 1
room_split [] = refl
room_split (b ∷ bytes) = let h = room_cond b (eqb b 47) (split 47 bytes) (split_some 47 bytes) in omega (arith, h, room_split bytes)

kept_cond : (t : Bool) (part : List ℕ) (parts : List (List ℕ)) → length (cond t (part ∷ parts) parts) ≤ length parts + 1
kept_cond true part parts = omega arith
kept_cond false part parts = omega arith

abbrev kept : List (List ℕ) → List (List ℕ)
kept parts = filter (λ part. not (is_dropped part)) parts

kept_room : (parts : List (List ℕ)) → 2 * length (kept parts) ≤ room parts
kept_room [] = omega arith
kept_room ([] ∷ parts) = let h : 2 * length (kept parts) ≤ room parts = kept_room parts in omega (arith, h)
kept_room ((b ∷ part) ∷ parts) = let h = kept_cond (not (is_dropped (b ∷ part))) (b ∷ part) (kept parts) in omega (arith, h, kept_room parts)

kept_le : (parts : List (List ℕ)) → length (kept parts) ≤ length parts
kept_le [] = omega arith
kept_le (part ∷ parts) = let h = kept_cond (not (is_dropped part)) part (kept parts) in omega (arith, h, kept_le parts)

-- each name takes a byte and a slash
pub kept_parts-short : (bytes : List ℕ) → 2 * length (kept_parts bytes) ≤ length bytes + 1
kept_parts-short bytes = omega (arith, kept_room (split 47 bytes), room_split bytes)

abbrev pub Behind : List ℕ → List ℕ → Type 0
Behind names bytes = (names ≡ bytes) ⊎ (bytes ≡ 47 ∷ names)

kept_behind : (names bytes : List ℕ) → Behind names bytes → kept_parts bytes ≡ kept_parts names
kept_behind names bytes (inl e) = ap kept_parts (sym e)
kept_behind names bytes (inr e) = ap kept_parts e

bad_behind : (names bytes : List ℕ) → Behind names bytes → list_any (λ b. not (is_path_byte b)) bytes ≡ list_any (λ b. not (is_path_byte b)) names
bad_behind names bytes (inl e) = ap (list_any (λ b. not (is_path_byte b))) (sym e)
bad_behind names bytes (inr e) = ap (list_any (λ b. not (is_path_byte b))) e

-- plain bytes are read as they are
pub read_path-plain : (names bytes : List ℕ) → Behind names bytes → length bytes ≤ 4096 → length (kept_parts bytes) ≤ 256 → list_all is_name (split 47 names) ≡ true → read_path bytes ≡ Ok (split 47 names)
read_path-plain names bytes behind short few named =
    let kept : kept_parts bytes ≡ split 47 names = kept_behind names bytes behind ∙ kept_all (split 47 names) named in
    let dots = ap (list_any (bytes_eq dot_dot)) kept ∙ no_dots (split 47 names) named in
    let bad = bad_behind names bytes behind ∙ no_bad names (all_bytes (split 47 names) named) in
    let long = ap (list_any (λ name. nat_lt max_name (length name))) kept ∙ no_long (split 47 names) named in
    let large : is_too_large bytes ≡ false = either_no _ _ (either_no _ _ (le-ltb _ _ short) long) (le-ltb _ _ few) in
    read_path-ok bytes dots bad large ∙ ap Ok kept

count_cond : (b : ℕ) (t : Bool) (n : ℕ) (parts : List (List ℕ)) → length parts ≡ n + 1 → length (cond t ([] ∷ parts) (onto_first b parts)) ≡ cond t (n + 2) (n + 1)
count_cond b true n parts h = omega (arith, h)
count_cond b false n [] h = absurd (omega (arith, h))
count_cond b false n (part ∷ parts) h = h

filter_cond : (b : ℕ) (t : Bool) (bytes : List ℕ) → length (cond t (b ∷ filter (λ b. eqb b 47) bytes) (filter (λ b. eqb b 47) bytes)) + 1 ≡ cond t (length (filter (λ b. eqb b 47) bytes) + 2) (length (filter (λ b. eqb b 47) bytes) + 1)
filter_cond b true bytes = omega arith
filter_cond b false bytes = refl

-- there is one part more than slashes
length-split_slashes : (bytes : List ℕ) → length (split 47 bytes) ≡ length (filter (λ b. eqb b 47) bytes) + 1
length-split_slashes [] = refl
length-split_slashes (b ∷ bytes) = count_cond b (eqb b 47) (length (filter (λ b. eqb b 47) bytes)) (split 47 bytes) (length-split_slashes bytes) ∙ sym (filter_cond b (eqb b 47) bytes)

-- so many slashes or fewer behind a first one have few names between them
pub kept_parts-few : (names bytes : List ℕ) → Behind names bytes → length (kept_parts bytes) ≤ length (filter (λ b. eqb b 47) names) + 1
kept_parts-few names bytes behind = omega (arith, ap length (kept_behind names bytes behind), kept_le (split 47 names), length-split_slashes names)

pub IsText-plain : (names text : List ℕ) → list_all is_name (split 47 names) ≡ true → text ≡ 47 ∷ (names ++ 47 ∷ []) → IsText text
IsText-plain names text named e = subst IsText (sym (e ∙ closed_bytes names)) (IsText-kept_text (split 47 names) named)

pub names-plain : (read text : List ℕ) → list_all is_name (split 47 read) ≡ true → text ≡ 47 ∷ (read ++ 47 ∷ []) → names text ≡ split 47 read
names-plain read text named e = ap names (e ∙ closed_bytes read) ∙ names-kept_text (split 47 read) named
