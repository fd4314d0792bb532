-- The directories of an image, read as they are written and in no other spelling.
use Rattle.std.proofs.Common.{◌≡◌, ℕ, zero, suc, ◌+◌, ◌<◌, ◌≤◌, ◌^◌, Bool, true, false, eqb, ltb, List, [], ◌++◌, length, Ok, refl, sym, ap, subst, ◌∙◌, arith, append_assoc}
use Rattle.std.proofs.lemmas.Bool.{ltb-false}
use Rattle.gufi_base.specs.declared.record.Kind.TheVariants.{Dir}
use Rattle.gufi_base.specs.declared.record.Rec.{Rec}
use Rattle.gufi_base.specs.Basics.{last_of, ◌>>=◌}
use Rattle.gufi_base.specs.Paths.{Components}
use Rattle.gufi_base.specs.Rows.{are_bytes}
use Rattle.gufi_tree.specs.declared.tree.Entry.{Entry}
use Rattle.gufi_tree.specs.Tree.{Directory, entry_count}
use Rattle.gufi_image.specs.declared.width.Width.{Width}
use Rattle.gufi_image.specs.declared.directory.Flag.{Flag}
use Rattle.gufi_image.specs.Bytes.{u8_bytes, u32_bytes, name_image, record_image}
use Rattle.gufi_image.specs.Image.{parent_number, flag_byte, entries_image, parts_image}
use Rattle.gufi_image.specs.Entries.{entries_at}
use Rattle.gufi_image.specs.Directories.{flag_at, Heading, heading_at, Flagged, with_entries, directory_at}
use Rattle.gufi_image.proofs.Repeats.{bind_ok}
use Rattle.gufi_image.proofs.FieldsBack.{refused_ok, ok_same, step, step_by, Reads, reads_from, u8_reader, u32_reader}
use Rattle.gufi_image.proofs.RecordsBack.{IsRecord, record_reader}
use Rattle.gufi_image.proofs.EntriesBack.{AreNextEntries, all_entries_reader}
use Rattle.gufi_image.proofs.PathsBack.{AreSound, IsNextPath, path_image, path_reader}

-- flags
abbrev flag_image : Flag → List ℕ
flag_image flag = u8_bytes (flag_byte flag.set)

flag_back : (set : Bool) (rest : List ℕ) → flag_at (u8_bytes (flag_byte set) ++ rest) ≡ Ok (record { set = set; left = suc (length rest) }, rest)
unfolding flag_at
flag_back true rest = let byte = u8_reader.back 1 rest (omega arith) in rw byte refl
flag_back false rest = let byte = u8_reader.back 0 rest (omega arith) in rw byte refl

same_byte : (byte : ℕ) → ltb 1 byte ≡ false → flag_byte (eqb byte 1) ≡ byte
same_byte zero few = refl
same_byte (suc zero) few = refl
same_byte (suc (suc byte)) few = absurd (omega (arith, ltb-false 1 (suc (suc byte)) few))

flag_once : (bytes : List ℕ) (found : Flag × List ℕ) → are_bytes bytes ≡ true → flag_at bytes ≡ Ok found → Reads (λ (flag : Flag). Unit {0}) flag_image bytes found
unfolding flag_at
flag_once bytes found are e =
    step u8_reader bytes _ found are e (λ byte rest i1 b1 a1 e1.
    let few = refused_ok (ltb 1 byte) _ _ found e1 in
    let flag : Flag = record { set = eqb byte 1; left = length bytes } in
    let same : (flag, rest) ≡ found = ok_same _ _ few.1 in
    reads_from (λ (f : Flag). Unit {0}) flag_image bytes found are (i1 ∙ ap (λ n. u8_bytes n ++ rest) (sym (same_byte byte few.0)) ∙ ap (λ (x : Flag × List ℕ). flag_image x.0 ++ x.1) same) tt)

-- a directory behind those before it
pub record IsNextDirectory (width : Width) (total : ℕ) (dirs : List Directory) (dir : Directory) : Type 0 where
  pub path : IsNextPath dirs dir.path
  pub rec : IsRecord width Dir dir.rec
  pub few : entry_count dirs + length dir.entries ≤ total
  pub entries : AreNextEntries width dir.path [] dir.entries

-- its text, with the parent's number among some directories
abbrev pub flagged_image : Width → List Directory → Flagged → List ℕ
flagged_image width dirs f = parts_image width (parent_number dirs f.dir.path) f.flag.set f.dir.path f.dir.rec f.dir.entries

parts_apart : (width : Width) (dirs : List Directory) (flag : Bool) (path : Components) (rec : Rec) (entries : List Entry) (rest : List ℕ)
    → parts_image width (parent_number dirs path) flag path rec entries ++ rest ≡ path_image dirs path ++ (u8_bytes (flag_byte flag) ++ (record_image width rec ++ (u32_bytes (length entries) ++ (entries_image width entries ++ rest))))
unfolding parts_image
parts_apart width dirs flag path rec entries rest = by (parent_number dirs path) (name_image (last_of [] path)) where
  by : (number : ℕ) (name : List ℕ)
      → (u32_bytes number ++ (name ++ (u8_bytes (flag_byte flag) ++ (record_image width rec ++ (u32_bytes (length entries) ++ entries_image width entries))))) ++ rest
      ≡ (u32_bytes number ++ name) ++ (u8_bytes (flag_byte flag) ++ (record_image width rec ++ (u32_bytes (length entries) ++ (entries_image width entries ++ rest))))
  by number name = simp append_assoc

pub directory_back : (width : Width) (total : ℕ) (dirs : List Directory) (dir : Directory) (flag : Bool) (rest : List ℕ) → total < 2 ^ 32 → AreSound dirs → IsNextDirectory width total dirs dir
    → (left : ℕ) × (directory_at width total dirs (parts_image width (parent_number dirs dir.path) flag dir.path dir.rec dir.entries ++ rest) ≡ Ok (record { dir = dir; flag = record { set = flag; left = left } }, rest))
unfolding directory_at heading_at
directory_back width total dirs dir flag rest small all h =
    let entries_text = entries_image width dir.entries ++ rest in
    let count_text = u32_bytes (length dir.entries) ++ entries_text in
    let rec_text = record_image width dir.rec ++ count_text in
    let few = h.few in
    let enough : ltb total (entry_count dirs + length dir.entries) ≡ false = grind arith in
    let fits : length dir.entries < 2 ^ 32 = omega arith in
    let path = (path_reader dirs all).back dir.path (u8_bytes (flag_byte flag) ++ rec_text) h.path in
    let set = flag_back flag rec_text in
    let rec = (record_reader width Dir).back dir.rec count_text h.rec in
    let count = u32_reader.back (length dir.entries) entries_text fits in
    let entries = (all_entries_reader width dir.path (length dir.entries)).back dir.entries rest (refl, h.entries) in
    (suc (length rec_text), rw (parts_apart width dirs flag dir.path dir.rec dir.entries rest, path, set, rec, count, enough, entries) refl)

pub directory_once : (width : Width) (total : ℕ) (dirs : List Directory) (bytes : List ℕ) (found : Flagged × List ℕ) → AreSound dirs → are_bytes bytes ≡ true → directory_at width total dirs bytes ≡ Ok found
    → Reads (λ (f : Flagged). IsNextDirectory width total dirs f.dir) (flagged_image width dirs) bytes found
unfolding directory_at heading_at
directory_once width total dirs bytes found all are e =
    let head = bind_ok (heading_at width total dirs bytes) _ found e in
    step (path_reader dirs all) bytes _ head.0 are head.1 (λ path r1 i1 b1 a1 e1.
    step_by flag_once r1 _ head.0 a1 e1 (λ flag r2 i2 b2 a2 e2.
    step (record_reader width Dir) r2 _ head.0 a2 e2 (λ rec r3 i3 b3 a3 e3.
    step u32_reader r3 _ head.0 a3 e3 (λ count r4 i4 b4 a4 e4.
    let few = refused_ok (ltb total (entry_count dirs + count)) _ _ head.0 e4 in
    let own : (record { path = path; rec = rec; flag = flag; count = count }, r4) ≡ head.0 = ok_same _ _ few.1 in
    let on = subst (λ (h : Heading × List ℕ). (entries_at width h.0.count h.0.path h.1 >>= λ es. Ok (with_entries h.0 es.0, es.1)) ≡ Ok found) (sym own) head.2 in
    step (all_entries_reader width path count) r4 _ found a4 on (λ entries rest i5 b5 a5 e5.
    let dir : Directory = record { path = path; rec = rec; entries = entries } in
    let same : (record { dir = dir; flag = flag }, rest) ≡ found = ok_same _ _ e5 in
    let enough = ltb-false total (entry_count dirs + count) few.0 in
    let holds : IsNextDirectory width total dirs dir = record { path = b1; rec = b3; few = omega (arith, enough, b5.0); entries = b5.1 } in
    let is : bytes ≡ path_image dirs path ++ (u8_bytes (flag_byte flag.set) ++ (record_image width rec ++ (u32_bytes (length entries) ++ (entries_image width entries ++ rest)))) =
    i1 ∙ ap (λ (t : List ℕ). path_image dirs path ++ t) (i2 ∙ ap (λ (t : List ℕ). u8_bytes (flag_byte flag.set) ++ t) (i3 ∙ ap (λ (t : List ℕ). record_image width rec ++ t) (i4 ∙ ap (λ n. u32_bytes n ++ r4) (sym b5.0) ∙ ap (λ (t : List ℕ). u32_bytes (length entries) ++ t) i5))) in
    reads_from (λ (f : Flagged). IsNextDirectory width total dirs f.dir) (flagged_image width dirs) bytes found are
    (is ∙ sym (parts_apart width dirs flag.set path rec entries rest) ∙ ap (λ (x : Flagged × List ℕ). flagged_image width dirs x.0 ++ x.1) same)
    (subst (λ (x : Flagged × List ℕ). IsNextDirectory width total dirs x.0.dir) same holds))))))
