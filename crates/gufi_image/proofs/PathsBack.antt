-- The paths of the directories of an image, read as they are written and in no other spelling.
use Rattle.std.proofs.Common.{◌≡◌, ℕ, zero, suc, ◌-◌, ◌<◌, ◌^◌, true, false, not, cond, eqb, List, [], ◌∷◌, ◌++◌, length, Option, Some, Ok, refl, sym, ap, subst, ◌∙◌, arith, append_assoc}
use Rattle.std.specs.Prelude.{slice_get, unwrap_or}
use Rattle.std.specs.List.{list_all}
use Rattle.std.proofs.lemmas.Bool.{and_parts, and_from, eqb-true}
use Rattle.std.proofs.lemmas.List.Folds.{list_all-append}
use Rattle.std.proofs.lemmas.Option.{slice_get_within, get_or_from_slice_get}
use Rattle.gufi_base.specs.Basics.{is_empty, last_of, ascends}
use Rattle.gufi_base.specs.Names.{is_name}
use Rattle.gufi_base.specs.Paths.{Components, parent_path, is_too_long}
use Rattle.gufi_base.specs.Rows.{are_bytes}
use Rattle.gufi_base.proofs.Parts.{last_of_push}
use Rattle.gufi_tree.specs.Tree.{Directory, dir_cmp, place_of, has_entry_named}
use Rattle.gufi_tree.proofs.Built.{parent_path-child}
use Rattle.gufi_tree.proofs.Searched.{place_of-at}
use Rattle.gufi_image.specs.Bytes.{u32_bytes, name_image}
use Rattle.gufi_image.specs.Image.{parent_number}
use Rattle.gufi_image.specs.Directories.{follows, root_at, below_at, first_at, other_at, path_at}
use Rattle.gufi_image.specs.Placed.{IsChild, IsPlaced}
use Rattle.gufi_image.proofs.Repeats.{bind_ok}
use Rattle.gufi_image.proofs.FieldsBack.{refused_ok, ok_same, not_false, step, Reads, reads_from, IsReader, u8_reader, u32_reader}
use Rattle.gufi_image.proofs.EntriesBack.{IsBelow, name_reader, some_ok}

-- a path that an image may hold
pub record IsSound (path : Components) : Type 0 where
  pub named : list_all is_name path ≡ true
  pub bytes : list_all are_bytes path ≡ true
  pub short : is_too_long path ≡ false

pub sound_root : IsSound []
sound_root = record { named = refl; bytes = refl; short = refl }

-- with one name more
push_sound : (above : Components) (name : List ℕ) → IsSound above → IsBelow above name → IsSound (above ++ name ∷ [])
push_sound above name h k = record {
  named = list_all-append is_name above (name ∷ []) ∙ and_from _ _ h.named (and_from _ _ k.named refl);
  bytes = list_all-append are_bytes above (name ∷ []) ∙ and_from _ _ h.bytes (and_from _ _ k.bytes refl);
  short = k.short;
}

pull_sound : (above : Components) (name : List ℕ) → IsSound (above ++ name ∷ []) → IsBelow above name
pull_sound above name h = record {
  named = (and_parts _ _ (and_parts (list_all is_name above) _ (sym (list_all-append is_name above (name ∷ [])) ∙ h.named)).1).0;
  short = h.short;
  bytes = (and_parts _ _ (and_parts (list_all are_bytes above) _ (sym (list_all-append are_bytes above (name ∷ [])) ∙ h.bytes)).1).0;
}

some_path : (p : Components) (name : List ℕ) → is_empty (p ++ name ∷ []) ≡ false
some_path [] name = refl
some_path (n ∷ p) name = refl

-- the parent's number is its place
pub child_number : (dirs : List Directory) (path : Components) (parent : Directory) (number : ℕ) (name : List ℕ) → ascends dir_cmp dirs ≡ true → slice_get dirs number ≡ Some parent → path ≡ parent.path ++ name ∷ []
    → parent_number dirs path ≡ number
child_number dirs path parent number name up there is =
    let place : place_of dirs parent.path ≡ Some number = place_of-at dirs parent.path number parent up (slice_get_within dirs number parent there) (ap (λ (d : Directory). d.path) (get_or_from_slice_get dirs number parent parent there)) in
    ap (parent_number dirs) is
    ∙ ap (λ b. cond b (2 ^ 32 - 1) (unwrap_or (place_of dirs (parent_path (parent.path ++ name ∷ []))) 0)) (some_path parent.path name)
    ∙ ap (λ (p : Components). unwrap_or (place_of dirs p) 0) (parent_path-child parent.path name)
    ∙ ap (λ (o : Option ℕ). unwrap_or o 0) place

abbrev pub path_image : List Directory → Components → List ℕ
path_image dirs path = u32_bytes (parent_number dirs path) ++ name_image (last_of [] path)

-- the root
first_back : (rest : List ℕ) → path_at [] (path_image [] [] ++ rest) ≡ Ok ([], rest)
unfolding path_at first_at root_at
first_back rest =
    let number = u32_reader.back (2 ^ 32 - 1) (0 ∷ rest) (omega arith) in
    let count = u8_reader.back 0 rest (omega arith) in
    rw (append_assoc, number, count) refl

first_once : (bytes : List ℕ) (found : Components × List ℕ) → are_bytes bytes ≡ true → path_at [] bytes ≡ Ok found → Reads (λ (path : Components). path ≡ []) (path_image []) bytes found
unfolding path_at first_at root_at
first_once bytes found are e =
    step u32_reader bytes _ found are e (λ number r1 i1 b1 a1 e1.
    let ones = refused_ok (not (eqb number (2 ^ 32 - 1))) _ _ found e1 in
    step u8_reader r1 _ found a1 ones.1 (λ count rest i2 b2 a2 e2.
    let none = refused_ok (not (eqb count 0)) _ _ found e2 in
    let same : ([], rest) ≡ found = ok_same _ _ none.1 in
    let first : number ≡ 2 ^ 32 - 1 = eqb-true number (2 ^ 32 - 1) (not_false _ ones.0) in
    let second : count ≡ 0 = eqb-true count 0 (not_false _ none.0) in
    let is : bytes ≡ u32_bytes (2 ^ 32 - 1) ++ (0 ∷ rest) = i1 ∙ ap (λ n. u32_bytes n ++ r1) first ∙ ap (λ (t : List ℕ). u32_bytes (2 ^ 32 - 1) ++ t) (i2 ∙ ap (λ n. n ∷ rest) second) in
    reads_from (λ (path : Components). path ≡ []) (path_image []) bytes found are (is ∙ sym (append_assoc (u32_bytes (2 ^ 32 - 1)) (0 ∷ []) rest) ∙ ap (λ (x : Components × List ℕ). path_image [] x.0 ++ x.1) same) (ap (λ (x : Components × List ℕ). x.0) (sym same))))

pub first_reader : IsReader (λ (path : Components). path ≡ []) (path_image []) (path_at [])
first_reader = record {
  back = λ path rest h. subst (λ (p : Components). path_at [] (path_image [] p ++ rest) ≡ Ok (p, rest)) (sym h) (first_back rest);
  once = first_once;
}

-- Another one behind those before it.
pub record IsOther (dirs : List Directory) (path : Components) : Type 0 where
  pub child : IsChild dirs path
  pub sound : IsSound path

pub record AreSound (dirs : List Directory) : Type 0 where
  pub order : ascends dir_cmp dirs ≡ true
  pub few : length dirs < 2 ^ 32
  pub sound : (i : ℕ) (d : Directory) → slice_get dirs i ≡ Some d → IsSound d.path

child_text : (dirs : List Directory) (path : Components) (parent : Directory) (number : ℕ) (name rest : List ℕ) → ascends dir_cmp dirs ≡ true → slice_get dirs number ≡ Some parent → path ≡ parent.path ++ name ∷ []
    → path_image dirs path ++ rest ≡ u32_bytes number ++ (name_image name ++ rest)
child_text dirs path parent number name rest up there is =
    append_assoc (u32_bytes (parent_number dirs path)) (name_image (last_of [] path)) rest
    ∙ ap (λ n. u32_bytes n ++ (name_image (last_of [] path) ++ rest)) (child_number dirs path parent number name up there is)
    ∙ ap (λ (t : List ℕ). u32_bytes number ++ (name_image t ++ rest)) (ap (last_of []) is ∙ last_of_push [] parent.path name)

other_back : (first : Directory) (ds : List Directory) (path : Components) (rest : List ℕ) → AreSound (first ∷ ds) → IsOther (first ∷ ds) path → path_at (first ∷ ds) (path_image (first ∷ ds) path ++ rest) ≡ Ok (path, rest)
unfolding path_at other_at below_at
other_back first ds path rest all h =
    let c = h.child in
    let name = c.below.name in
    let below = pull_sound c.parent.path name (subst IsSound c.below.is h.sound) in
    let fits : c.number < 2 ^ 32 = omega (arith, slice_get_within (first ∷ ds) c.number c.parent c.there, all.few) in
    let text = child_text (first ∷ ds) path c.parent c.number name rest all.order c.there c.below.is in
    let number = u32_reader.back c.number (name_image name ++ rest) fits in
    let there = c.there in
    let one = (name_reader c.parent.path).back name rest below in
    let free = c.below.free in
    let above = ap (follows (first ∷ ds)) (sym c.below.is) ∙ c.above in
    rw (text, number, there, one, free, above) (ap (λ (p : Components). Ok (p, rest)) (sym c.below.is))

-- a name that no entry of the parent has
below_once : {G : Type 0} (parent : Directory) (bytes : List ℕ) (found : Components × List ℕ) → are_bytes bytes ≡ true → below_at parent bytes ≡ Ok found
    → ((name rest : List ℕ) → bytes ≡ name_image name ++ rest → IsBelow parent.path name → are_bytes rest ≡ true → has_entry_named name parent ≡ false → found ≡ (parent.path ++ name ∷ [], rest) → G) → G
unfolding below_at
below_once parent bytes found are e then =
    step (name_reader parent.path) bytes _ found are e (λ name rest is holds more on.
    let free = refused_ok (has_entry_named name parent) _ _ found on in
    then name rest is holds more free.0 (sym (ok_same _ _ free.1)))

other_once : (first : Directory) (ds : List Directory) (bytes : List ℕ) (found : Components × List ℕ) → AreSound (first ∷ ds) → are_bytes bytes ≡ true → path_at (first ∷ ds) bytes ≡ Ok found
    → Reads (IsOther (first ∷ ds)) (path_image (first ∷ ds)) bytes found
unfolding path_at other_at
other_once first ds bytes found all are e =
    step u32_reader bytes _ found are e (λ number r1 i1 b1 a1 e1.
    let parent = some_ok (slice_get (first ∷ ds) number) _ _ found e1 in
    let path = bind_ok (below_at parent.0 r1) _ found parent.2 in
    let above = refused_ok (not (follows (first ∷ ds) path.0.0)) _ _ found path.2 in
    let same : path.0 ≡ found = ok_same _ _ above.1 in
    below_once parent.0 r1 path.0 a1 path.1 (λ name rest i2 b2 a2 free one.
    let whole : found ≡ (parent.0.path ++ name ∷ [], rest) = sym same ∙ one in
    let child : IsChild (first ∷ ds) found.0 = record {
      parent = parent.0;
      number = number;
      there = parent.1;
      below = record { name = name; is = ap (λ (x : Components × List ℕ). x.0) whole; free = free };
      above = ap (λ (x : Components × List ℕ). follows (first ∷ ds) x.0) (sym same) ∙ not_false _ above.0;
    } in
    let sound : IsSound found.0 = subst (λ (x : Components × List ℕ). IsSound x.0) (sym whole) (push_sound parent.0.path name (all.sound number parent.0 parent.1) b2) in
    let text = child_text (first ∷ ds) found.0 parent.0 number name rest all.order parent.1 (ap (λ (x : Components × List ℕ). x.0) whole) in
    reads_from (IsOther (first ∷ ds)) (path_image (first ∷ ds)) bytes found are
    (i1 ∙ ap (λ (t : List ℕ). u32_bytes number ++ t) i2 ∙ sym text ∙ ap (λ (x : Components × List ℕ). path_image (first ∷ ds) found.0 ++ x.1) (sym whole))
    (record { child = child; sound = sound })))

-- the path of a directory behind those before it
abbrev pub IsNextPath : List Directory → Components → Type 0
IsNextPath [] path = path ≡ []
IsNextPath (first ∷ ds) path = IsOther (first ∷ ds) path

pub path_reader : (dirs : List Directory) → AreSound dirs → IsReader (IsNextPath dirs) (path_image dirs) (path_at dirs)
path_reader [] all = first_reader
path_reader (first ∷ ds) all = record { back = λ path rest h. other_back first ds path rest all h; once = λ bytes found are e. other_once first ds bytes found all are e }

pub next_placed : (dirs : List Directory) (path : Components) → IsNextPath dirs path → IsPlaced dirs path
next_placed [] path h = h
next_placed (first ∷ ds) path h = h.child

pub next_sound : (dirs : List Directory) (path : Components) → IsNextPath dirs path → IsSound path
next_sound [] path h = subst IsSound (sym h) sound_root
next_sound (first ∷ ds) path h = h.sound

-- the parent's number is the same among more directories
slice_get_more : {X : Type 0} (xs ys : List X) (i : ℕ) (x : X) → slice_get xs i ≡ Some x → slice_get (xs ++ ys) i ≡ Some x
slice_get_more [] ys i x e = absurd cc
slice_get_more (z ∷ xs) ys zero x e = e
slice_get_more (z ∷ xs) ys (suc i) x e = slice_get_more xs ys i x e

pub number_more : (dirs more : List Directory) (path : Components) → ascends dir_cmp dirs ≡ true → ascends dir_cmp (dirs ++ more) ≡ true → IsPlaced dirs path → parent_number dirs path ≡ parent_number (dirs ++ more) path
number_more [] more path up all h = ap (parent_number []) h ∙ ap (parent_number more) (sym h)
number_more (first ∷ ds) more path up all h =
    child_number (first ∷ ds) path h.parent h.number h.below.name up h.there h.below.is
    ∙ sym (child_number ((first ∷ ds) ++ more) path h.parent h.number h.below.name all (slice_get_more (first ∷ ds) more h.number h.parent h.there) h.below.is)
