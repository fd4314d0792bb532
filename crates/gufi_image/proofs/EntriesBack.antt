-- The names and entries of an image, read as they are written and in no other spelling.
use Rattle.std.proofs.Common.{◌≡◌, ℕ, zero, suc, ◌<◌, ◌≤◌, ◌^◌, Bool, true, false, not, ◌&&◌, ◌||◌, cond, eqb, leb, List, [], ◌∷◌, ◌++◌, length, Option, Some, None, Result, Ok, refl, sym, ap, subst, ◌∙◌, arith, append_assoc}
use Rattle.std.specs.Prelude.{ok_or, bytes_eq}
use Rattle.std.specs.List.{list_all}
use Rattle.std.proofs.lemmas.Bool.{and_parts, or_parts, leb-true, eqb-true, eq-eqb, false≢true}
use Rattle.std.proofs.lemmas.List.{append-nil}
use Rattle.gufi_base.specs.declared.record.Kind.{Kind}
use Rattle.gufi_base.specs.declared.record.Kind.TheVariants.{Block, Char, Dir, Link, Fifo, File, Socket}
use Rattle.gufi_base.specs.Basics.{is_empty, ◌>>=◌}
use Rattle.gufi_base.specs.Limits.{max_name}
use Rattle.gufi_base.specs.Names.{is_name, is_name_byte, dot, dot_dot}
use Rattle.gufi_base.specs.Kinds.{kind_letter, kind_of_letter, is_dir}
use Rattle.gufi_base.specs.Paths.{Components, is_too_long}
use Rattle.gufi_base.specs.Rows.{are_bytes}
use Rattle.gufi_tree.specs.declared.tree.Entry.{Entry}
use Rattle.gufi_image.specs.declared.width.Width.{Width}
use Rattle.gufi_image.specs.declared.fault.Flaw.{Flaw}
use Rattle.gufi_image.specs.Bytes.{u8_bytes, name_image, record_image}
use Rattle.gufi_image.specs.Image.{entry_image, entries_image}
use Rattle.gufi_image.specs.Names.{name_at}
use Rattle.gufi_image.specs.Entries.{entry_kind, follows, entry_at, one_entry, entries_at}
use Rattle.gufi_image.specs.Repeated.{repeated}
use Rattle.gufi_image.proofs.Repeats.{bind_ok}
use Rattle.gufi_image.proofs.FieldsBack.{refused_ok, ok_same, not_false, bytes_rest, step, Reads, reads_from, IsReader, bytes_reader, u8_reader}
use Rattle.gufi_image.proofs.RecordsBack.{IsRecord, record_reader}

-- the length of a name is one byte
pub name_short : (name : List ℕ) → is_name name ≡ true → length name ≤ 255
name_short name h =
    let outer = and_parts (not (is_empty name) && leb (length name) max_name && list_all is_name_byte name) (not (bytes_eq name dot || bytes_eq name dot_dot)) h in
    let front = and_parts (not (is_empty name) && leb (length name) max_name) (list_all is_name_byte name) outer.0 in
    leb-true (length name) max_name (and_parts (not (is_empty name)) (leb (length name) max_name) front.0).1

-- names below a directory
pub record IsBelow (above : Components) (name : List ℕ) : Type 0 where
  pub named : is_name name ≡ true
  pub short : is_too_long (above ++ name ∷ []) ≡ false
  pub bytes : are_bytes name ≡ true

name_back : (above : Components) (name rest : List ℕ) → IsBelow above name → name_at above (name_image name ++ rest) ≡ Ok (name, rest)
unfolding name_at
name_back above name rest h =
    let fits : length name < 2 ^ 8 = omega (arith, name_short name h.named) in
    let count = u8_reader.back (length name) (name ++ rest) fits in
    let field = (bytes_reader (length name)).back name rest refl in
    let named = h.named in
    let short = h.short in
    rw (count, field, named, short) refl

name_once : (above : Components) (bytes : List ℕ) (found : List ℕ × List ℕ) → are_bytes bytes ≡ true → name_at above bytes ≡ Ok found → Reads (IsBelow above) name_image bytes found
unfolding name_at
name_once above bytes found are e =
    step u8_reader bytes _ found are e (λ count r1 i1 b1 a1 e1.
    step (bytes_reader count) r1 _ found a1 e1 (λ name rest i2 b2 a2 e2.
    let sound = refused_ok (not (is_name name) || is_too_long (above ++ name ∷ [])) _ _ found e2 in
    let both = or_parts (not (is_name name)) (is_too_long (above ++ name ∷ [])) sound.0 in
    let same : (name, rest) ≡ found = ok_same _ _ sound.1 in
    let is : bytes ≡ u8_bytes (length name) ++ (name ++ rest) = cc in
    let parts = bytes_rest name rest (ap are_bytes (sym i2) ∙ a1) in
    let holds : IsBelow above name = record { named = not_false _ both.0; short = both.1; bytes = parts.0 } in
    reads_from (IsBelow above) name_image bytes found are (is ∙ ap (λ (x : List ℕ × List ℕ). name_image x.0 ++ x.1) same) (subst (λ (x : List ℕ × List ℕ). IsBelow above x.0) same holds)))

pub name_reader : (above : Components) → IsReader (IsBelow above) name_image (name_at above)
name_reader above = record { back = name_back above; once = name_once above }

-- the letter of an entry's type
letter_back : (kind : Kind) → is_dir kind ≡ false → entry_kind (kind_letter kind) ≡ Some kind
letter_back Block h = refl
letter_back Char h = refl
letter_back Dir h = absurd cc
letter_back Link h = refl
letter_back Fifo h = refl
letter_back File h = refl
letter_back Socket h = refl

pick : {G : Type 0} (c n : ℕ) (k kind : Kind) (more : Option Kind) → cond (eqb c n) (Some k) more ≡ Some kind → (c ≡ n → k ≡ kind → G) → (more ≡ Some kind → G) → G
pick {G} c n k kind more e here there = by (eqb c n) refl e where
  by : (b : Bool) → eqb c n ≡ b → cond b (Some k) more ≡ Some kind → G
  by true same h = here (eqb-true c n same) cc
  by false same h = there h

letter_once : (c : ℕ) (kind : Kind) → entry_kind c ≡ Some kind → (is_dir kind ≡ false) × (kind_letter kind ≡ c)
letter_once c kind e = by (eqb c 100) refl e where
  given : (k : Kind) → is_dir k ≡ false → c ≡ kind_letter k → k ≡ kind → (is_dir kind ≡ false) × (kind_letter kind ≡ c)
  given k apart letter same = subst (λ (v : Kind). (is_dir v ≡ false) × (kind_letter v ≡ c)) same (apart, sym letter)

  by : (b : Bool) → eqb c 100 ≡ b → cond b None (kind_of_letter c) ≡ Some kind → (is_dir kind ≡ false) × (kind_letter kind ≡ c)
  by true dir h = absurd cc
  by false dir h =
      pick c 98 Block kind _ h (given Block refl) (λ h1.
      pick c 99 Char kind _ h1 (given Char refl) (λ h2.
      pick c 100 Dir kind _ h2 (λ letter _. absurd (false≢true (sym dir ∙ eq-eqb c 100 letter))) (λ h3.
      pick c 108 Link kind _ h3 (given Link refl) (λ h4.
      pick c 112 Fifo kind _ h4 (given Fifo refl) (λ h5.
      pick c 102 File kind _ h5 (given File refl) (λ h6.
      pick c 115 Socket kind _ h6 (given Socket refl) (λ h7. absurd cc)))))))

letter_small : (kind : Kind) → kind_letter kind < 2 ^ 8
letter_small Block = omega arith
letter_small Char = omega arith
letter_small Dir = omega arith
letter_small Link = omega arith
letter_small Fifo = omega arith
letter_small File = omega arith
letter_small Socket = omega arith

-- an entry behind those before it
pub record IsNextEntry (width : Width) (path : Components) (before : List Entry) (entry : Entry) : Type 0 where
  pub apart : is_dir entry.rec.meta.kind ≡ false
  pub below : IsBelow path entry.name
  pub above : follows before entry.name ≡ true
  pub rec : IsRecord width entry.rec.meta.kind entry.rec

entry_apart : (width : Width) (entry : Entry) (rest : List ℕ) → entry_image width entry ++ rest ≡ u8_bytes (kind_letter entry.rec.meta.kind) ++ (name_image entry.name ++ (record_image width entry.rec ++ rest))
unfolding entry_image
entry_apart width entry rest = simp append_assoc

entry_back : (width : Width) (path : Components) (before : List Entry) (entry : Entry) (rest : List ℕ) → IsNextEntry width path before entry → entry_at width path before (entry_image width entry ++ rest) ≡ Ok (entry, rest)
unfolding entry_at
entry_back width path before entry rest h =
    let kind = entry.rec.meta.kind in
    let letter = u8_reader.back (kind_letter kind) (name_image entry.name ++ (record_image width entry.rec ++ rest)) (letter_small kind) in
    let type = letter_back kind h.apart in
    let name = (name_reader path).back entry.name (record_image width entry.rec ++ rest) h.below in
    let above = h.above in
    let rec = (record_reader width kind).back entry.rec rest h.rec in
    rw (entry_apart width entry rest, letter, type, name, above, rec) refl

pub some_ok : {A B : Type 0} (o : Option A) (e : Flaw) (f : A → Result B Flaw) (y : B) → (ok_or o e >>= f) ≡ Ok y → (x : A) × (o ≡ Some x) × (f x ≡ Ok y)
some_ok None e f y h = absurd cc
some_ok (Some x) e f y h = (x, refl, h)

entry_once : (width : Width) (path : Components) (before : List Entry) (bytes : List ℕ) (found : Entry × List ℕ) → are_bytes bytes ≡ true → entry_at width path before bytes ≡ Ok found → Reads (IsNextEntry width path before) (entry_image width) bytes found
unfolding entry_at
entry_once width path before bytes found are e =
    step u8_reader bytes _ found are e (λ letter r1 i1 b1 a1 e1.
    let kind = some_ok (entry_kind letter) _ _ found e1 in
    let type = letter_once letter kind.0 kind.1 in
    step (name_reader path) r1 _ found a1 kind.2 (λ name r2 i2 b2 a2 e2.
    let above = refused_ok (not (follows before name)) _ _ found e2 in
    step (record_reader width kind.0) r2 _ found a2 above.1 (λ rec rest i3 b3 a3 e3.
    let entry : Entry = record { name = name; rec = rec } in
    let same : (entry, rest) ≡ found = ok_same _ _ e3 in
    let own = b3.meta.kind in
    let is : bytes ≡ u8_bytes (kind_letter rec.meta.kind) ++ (name_image name ++ (record_image width rec ++ rest)) =
    i1 ∙ ap (λ k. u8_bytes k ++ r1) (sym type.1 ∙ ap kind_letter (sym own)) ∙ ap (λ (t : List ℕ). u8_bytes (kind_letter rec.meta.kind) ++ t) (i2 ∙ ap (λ (t : List ℕ). name_image name ++ t) i3) in
    let holds : IsNextEntry width path before entry = record {
      apart = ap is_dir own ∙ type.0;
      below = b2;
      above = not_false _ above.0;
      rec = subst (λ (k : Kind). IsRecord width k rec) (sym own) b3;
    } in
    reads_from (IsNextEntry width path before) (entry_image width) bytes found are (is ∙ sym (entry_apart width entry rest) ∙ ap (λ (x : Entry × List ℕ). entry_image width x.0 ++ x.1) same) (subst (λ (x : Entry × List ℕ). IsNextEntry width path before x.0) same holds))))

entry_reader : (width : Width) (path : Components) (before : List Entry) → IsReader (IsNextEntry width path before) (entry_image width) (entry_at width path before)
entry_reader width path before = record { back = entry_back width path before; once = entry_once width path before }

-- entries behind those before them
abbrev pub AreNextEntries : Width → Components → List Entry → List Entry → Type 0
AreNextEntries width path before [] = Unit {0}
AreNextEntries width path before (entry ∷ entries) = IsNextEntry width path before entry × AreNextEntries width path (before ++ entry ∷ []) entries

entries_behind : (width : Width) (path : Components) (entries before : List Entry) (rest : List ℕ) → AreNextEntries width path before entries → repeated (one_entry width path) (length entries) before (entries_image width entries ++ rest) ≡ Ok (before ++ entries, rest)
entries_behind width path [] before rest h = ap (λ (es : List Entry). Ok (es, rest)) (sym (append-nil before))
entries_behind width path (entry ∷ entries) before rest h =
    let more = before ++ entry ∷ [] in
    let one = (entry_reader width path before).back entry (entries_image width entries ++ rest) h.0 in
    let others = entries_behind width path entries more rest h.1 in
    rw (append_assoc, one) (others ∙ ap (λ (es : List Entry). Ok (es, rest)) (append_assoc before (entry ∷ []) entries))

-- What so many steps read behind the entries before.
pub record AreRead (width : Width) (path : Components) (count : ℕ) (before : List Entry) (bytes : List ℕ) (found : List Entry × List ℕ) : Type 0 where
  pub entries : List Entry
  pub whole : found.0 ≡ before ++ entries
  pub number : length entries ≡ count
  pub is : bytes ≡ entries_image width entries ++ found.1
  pub each : AreNextEntries width path before entries
  pub rest : are_bytes found.1 ≡ true

entries_once : (width : Width) (path : Components) (count : ℕ) (before : List Entry) (bytes : List ℕ) (found : List Entry × List ℕ) → are_bytes bytes ≡ true → repeated (one_entry width path) count before bytes ≡ Ok found → AreRead width path count before bytes found
entries_once width path zero before bytes found are e =
    let same : (before, bytes) ≡ found = ok_same _ _ e in
    subst (AreRead width path 0 before bytes) same (record { entries = []; whole = sym (append-nil before); number = refl; is = refl; each = tt; rest = are })
entries_once width path (suc count) before bytes found are e =
    let one = bind_ok (one_entry width path before bytes) (λ more. repeated (one_entry width path) count more.0 more.1) found e in
    step (entry_reader width path before) bytes (λ entry. Ok (before ++ entry.0 ∷ [], entry.1)) one.0 are one.1 (λ entry after is holds rest same.
    let more : (before ++ entry ∷ [], after) ≡ one.0 = ok_same _ _ same in
    let on : repeated (one_entry width path) count (before ++ entry ∷ []) after ≡ Ok found = subst (λ (x : List Entry × List ℕ). repeated (one_entry width path) count x.0 x.1 ≡ Ok found) (sym more) one.2 in
    let others = entries_once width path count (before ++ entry ∷ []) after found rest on in
    record {
      entries = entry ∷ others.entries;
      whole = others.whole ∙ append_assoc before (entry ∷ []) others.entries;
      number = ap suc others.number;
      is = is ∙ ap (λ (t : List ℕ). entry_image width entry ++ t) others.is ∙ sym (append_assoc (entry_image width entry) (entries_image width others.entries) found.1);
      each = (holds, others.each);
      rest = others.rest;
    })

-- all entries of a directory
pub all_entries_reader : (width : Width) (path : Components) (count : ℕ) → IsReader (λ (entries : List Entry). (length entries ≡ count) × AreNextEntries width path [] entries) (entries_image width) (entries_at width count path)
unfolding entries_at
all_entries_reader width path count = record {
  back = λ entries rest h. subst (λ n. repeated (one_entry width path) n [] (entries_image width entries ++ rest) ≡ Ok (entries, rest)) h.0 (entries_behind width path entries [] rest h.1);
  once = λ bytes found are e. all bytes found are (entries_once width path count [] bytes found are e);
} where
  all : (bytes : List ℕ) (found : List Entry × List ℕ) → are_bytes bytes ≡ true → AreRead width path count [] bytes found → Reads (λ (entries : List Entry). (length entries ≡ count) × AreNextEntries width path [] entries) (entries_image width) bytes found
  all bytes found are h =
      reads_from (λ (entries : List Entry). (length entries ≡ count) × AreNextEntries width path [] entries) (entries_image width) bytes found are
      (h.is ∙ ap (λ (es : List Entry). entries_image width es ++ found.1) (sym h.whole))
      (subst (λ (es : List Entry). (length es ≡ count) × AreNextEntries width path [] es) (sym h.whole) (h.number, h.each))
