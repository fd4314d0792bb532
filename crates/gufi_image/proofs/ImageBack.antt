-- Images, read as they are written and in no other spelling.
use Rattle.std.proofs.Common.{◌≡◌, ℕ, ◌<◌, ◌≤◌, ◌^◌, Bool, true, false, not, cond, eqb, List, [], ◌∷◌, ◌++◌, length, map, Result, Ok, Err, refl, sym, ap, subst, ◌∙◌, arith}
use Rattle.std.specs.List.{flat_map}
use Rattle.std.proofs.lemmas.Bool.{eqb-true, eq-eqb}
use Rattle.std.proofs.lemmas.List.{append-nil, length-map}
use Rattle.gufi_base.specs.declared.record.Kind.{Kind}
use Rattle.gufi_base.specs.declared.record.Kind.TheVariants.{Dir}
use Rattle.gufi_base.specs.declared.record.Rec.{Rec}
use Rattle.gufi_base.specs.Limits.{max_dirs, max_entries}
use Rattle.gufi_base.specs.Basics.{is_empty, ascends, ◌>>◌, result_map_err}
use Rattle.gufi_base.specs.Rows.{are_bytes}
use Rattle.gufi_base.specs.Paths.{Components}
use Rattle.gufi_tree.specs.declared.tree.Entry.{Entry}
use Rattle.gufi_tree.specs.Tree.{Directory, dir_cmp, entry_count}
use Rattle.gufi_roll.specs.CanRoll.{can_roll, roll_flags}
use Rattle.gufi_snap.specs.Snap.{Snap}
use Rattle.gufi_image.specs.declared.width.Width.{Width}
use Rattle.gufi_image.specs.declared.fault.Flaw.{Flaw}
use Rattle.gufi_image.specs.declared.directory.Flag.{Flag}
use Rattle.gufi_image.specs.declared.width.Width.TheVariants.{Narrow, Named, Guarded}
use Rattle.gufi_image.specs.Widths.{record_needs, entries_need, tree_needs, width_of}
use Rattle.gufi_image.specs.Image.{parent_number, parts_image, directories_image, head_image, image_text}
use Rattle.gufi_image.specs.Directories.{Flagged, Front, no_front, directories_at}
use Rattle.gufi_image.specs.Reading.{Counts, Flags, head_at, is_bare, all_at, wrong_flag, snapshot_at, fault_in, image_means}
use Rattle.gufi_image.proofs.Repeats.{bind_ok}
use Rattle.gufi_image.proofs.FieldsBack.{refused_ok, ok_same, not_false, step_by}
use Rattle.gufi_image.proofs.RecordsBack.{IsHeld, IsNames, IsAclOrNone, IsRecord}
use Rattle.gufi_image.proofs.PathsBack.{AreSound}
use Rattle.gufi_image.proofs.EntriesBack.{AreNextEntries}
use Rattle.gufi_image.proofs.DirectoriesBack.{flagged_image}
use Rattle.gufi_image.proofs.FrontsBack.{AreNextDirectories, rolled_image, directories_back, AreReadOnce, directories_once}
use Rattle.gufi_image.proofs.HeadBack.{AreCounts, head_of, head_back, head_once, flags_back, flags_once}

none_sound : AreSound []
none_sound = record { order = refl; few = omega arith; sound = λ i d there. absurd cc }

-- directories of so many, as a tree has them
pub record AreAll (tree : List Directory) (limit : ℕ) : Type 0 where
  pub limit_fits : limit < 2 ^ 64
  pub some : 0 < length tree
  pub few : length tree ≤ max_dirs
  pub entries : entry_count tree ≤ max_entries
  pub order : ascends dir_cmp tree ≡ true
  pub next : AreNextDirectories (width_of tree) (entry_count tree) [] tree

abbrev counts_of : List Directory → ℕ → Counts
counts_of tree limit = record { width = width_of tree; limit = limit; dirs = length tree; entries = entry_count tree; left = 0 }

counts_hold : (tree : List Directory) (limit : ℕ) → AreAll tree limit → AreCounts (counts_of tree limit)
counts_hold tree limit h = record { limit = h.limit_fits; some = h.some; few = h.few; entries = h.entries }

abbrev roll_of : List Directory → ℕ → Directory → Bool
roll_of tree limit dir = can_roll tree limit dir.path

fronts_back : (width : Width) (tree : List Directory) (roll : Directory → Bool) → length tree < 2 ^ 32 → entry_count tree < 2 ^ 32 → ascends dir_cmp tree ≡ true → AreNextDirectories width (entry_count tree) [] tree
    → (flags : List Flag) × (map (λ (flag : Flag). flag.set) flags ≡ map roll tree) × (directories_at width (length tree) (entry_count tree) (rolled_image width tree roll tree) ≡ Ok (record { dirs = tree; flags = flags }, []))
unfolding directories_at
fronts_back width tree roll few small up next =
    let h = directories_back width (entry_count tree) tree roll tree no_front [] small few up refl none_sound next in
    (h.flags, h.set, subst (λ (t : List ℕ). directories_at width (length tree) (entry_count tree) t ≡ Ok (record { dirs = tree; flags = h.flags }, [])) (append-nil (rolled_image width tree roll tree)) h.is)

never_bare : (tree : List Directory) → is_bare (width_of tree) tree ≡ false
never_bare tree = by (tree_needs Guarded tree) (tree_needs Named tree) refl refl where
  by : (acls names : Bool) → tree_needs Guarded tree ≡ acls → tree_needs Named tree ≡ names → is_bare (cond acls Guarded (cond names Named Narrow)) tree ≡ false
  by true names guarded named = rw guarded refl
  by false true guarded named = rw named refl
  by false false guarded named = refl

all_back : (tree : List Directory) (limit : ℕ) → AreAll tree limit → (flags : List Flag) × (map (λ (flag : Flag). flag.set) flags ≡ roll_flags tree limit) × (all_at (image_text tree limit) ≡ Ok (record { limit = limit; front = record { dirs = tree; flags = flags } }))
unfolding all_at image_text head_image
all_back tree limit h =
    let few = h.few in
    let entries = h.entries in
    let width = width_of tree in
    let fronts = fronts_back width tree (roll_of tree limit) (omega arith) (omega arith) h.order h.next in
    let head = head_back (counts_of tree limit) (directories_image width tree limit tree) (counts_hold tree limit h) in
    let front = fronts.2 in
    let same = eq-eqb (entry_count tree) (entry_count tree) refl in
    let least = never_bare tree in
    let on : head_at (head_of (counts_of tree limit) ++ directories_image width tree limit tree) ≡ Ok (record { width = width; limit = limit; dirs = length tree; entries = entry_count tree; left = head.0 }, directories_image width tree limit tree) = head.1 in
    (fronts.0, fronts.1, rw (on, front, same, least) refl)

pub image_back : (tree : List Directory) (limit : ℕ) → AreAll tree limit → image_means (image_text tree limit) ≡ Ok (record { tree = tree; limit = limit })
unfolding image_means snapshot_at
image_back tree limit h =
    let all = all_back tree limit h in
    let is = all.2 in
    let flags = flags_back (roll_flags tree limit) all.0 all.1 in
    rw (is, flags) refl

-- What bytes were read as.
pub record IsReadOnce (bytes : List ℕ) (tree : List Directory) (limit : ℕ) (flags : List Flag) : Type 0 where
  pub all : AreAll tree limit
  pub read : List Flagged
  pub dirs : tree ≡ map (λ (f : Flagged). f.dir) read
  pub flags_are : flags ≡ map (λ (f : Flagged). f.flag) read
  pub is : bytes ≡ head_image (width_of tree) tree limit ++ flat_map (flagged_image (width_of tree) tree) read

head_same : (counts : Counts) (tree : List Directory) → length tree ≡ counts.dirs → entry_count tree ≡ counts.entries → head_of counts ≡ head_image counts.width tree counts.limit
unfolding head_image
head_same counts tree dirs entries = rw (dirs, entries) refl

no_more : (rest : List ℕ) → not (is_empty rest) ≡ false → rest ≡ []
no_more [] h = refl
no_more (b ∷ rest) h = absurd cc

-- The version is the least: records have nothing that their width doesn't hold.
none_held : (P : List ℕ → Type 0) (bytes : List ℕ) → IsHeld P false bytes → not (is_empty bytes) ≡ false
none_held P bytes none = rw none refl

-- a need that no record of a width has
abbrev Unneeded : Width → Width → Type 0
Unneeded width need = (kind : Kind) (rec : Rec) → IsRecord width kind rec → record_needs need rec ≡ false

no_entries : (width need : Width) (path : Components) (before es : List Entry) → Unneeded width need → AreNextEntries width path before es → entries_need need es ≡ false
no_entries width need path before [] none n = refl
no_entries width need path before (e ∷ es) none n = rw (none e.rec.meta.kind e.rec n.0.rec, no_entries width need path (before ++ e ∷ []) es none n.1) refl

none_needs : (width need : Width) (total : ℕ) (before ds : List Directory) → Unneeded width need → AreNextDirectories width total before ds → tree_needs need ds ≡ false
none_needs width need total before [] none n = refl
none_needs width need total before (d ∷ ds) none n =
    rw (none Dir d.rec n.0.rec, no_entries width need d.path [] d.entries none n.0.entries, none_needs width need total (before ++ d ∷ []) ds none n.1) refl

least_is : (width : Width) (total : ℕ) (before ds : List Directory) → AreNextDirectories width total before ds → is_bare width ds ≡ false → width ≡ width_of ds
least_is Narrow total before ds n least =
    let acls = none_needs Narrow Guarded total before ds (λ kind rec h. none_held IsAclOrNone rec.acl h.acl) n in
    let names = none_needs Narrow Named total before ds (λ kind rec h. none_held IsNames rec.xattrs h.xattrs) n in
    rw (acls, names) refl
least_is Named total before ds n least =
    let acls = none_needs Named Guarded total before ds (λ kind rec h. none_held IsAclOrNone rec.acl h.acl) n in
    let names = not_false (tree_needs Named ds) least in
    rw (acls, names) refl
least_is Guarded total before ds n least = let acls = not_false (tree_needs Guarded ds) least in rw acls refl

read_all : (bytes after : List ℕ) (counts : Counts) (found : Front × List ℕ) → bytes ≡ head_of counts ++ after → AreCounts counts → AreReadOnce counts.width counts.entries counts.dirs no_front after found
    → entry_count found.0.dirs ≡ counts.entries → is_bare counts.width found.0.dirs ≡ false → found.1 ≡ [] → IsReadOnce bytes found.0.dirs counts.limit found.0.flags
read_all bytes after counts found is c r entries least none =
    let tree = found.0.dirs in
    let dirs : length tree ≡ counts.dirs = ap length r.dirs ∙ length-map r.read (λ (f : Flagged). f.dir) ∙ r.number in
    let next : AreNextDirectories counts.width (entry_count tree) [] tree =
    subst (λ n. AreNextDirectories counts.width n [] tree) (sym entries) (subst (AreNextDirectories counts.width counts.entries []) (sym r.dirs) r.next) in
    let least_width : counts.width ≡ width_of tree = least_is counts.width (entry_count tree) [] tree next least in
    let texts : Width → List ℕ = λ width. flat_map (flagged_image width tree) r.read in
    record {
      all = record { limit_fits = c.limit; some = omega (arith, dirs, c.some); few = omega (arith, dirs, c.few); entries = omega (arith, entries, c.entries); order = r.sound.order; next = subst (λ width. AreNextDirectories width (entry_count tree) [] tree) least_width next };
      read = r.read;
      dirs = r.dirs;
      flags_are = r.flags;
      is = is ∙ ap (λ (t : List ℕ). head_of counts ++ t) (r.is ∙ ap (λ (t : List ℕ). texts counts.width ++ t) none ∙ append-nil (texts counts.width)) ∙ ap (λ (t : List ℕ). t ++ texts counts.width) (head_same counts tree dirs entries)
          ∙ ap (λ width. head_image width tree counts.limit ++ texts width) least_width;
    }

fronts_once : (width : Width) (count total : ℕ) (bytes : List ℕ) (found : Front × List ℕ) → count < 2 ^ 32 → are_bytes bytes ≡ true → directories_at width count total bytes ≡ Ok found → AreReadOnce width total count no_front bytes found
unfolding directories_at
fronts_once width count total bytes found few are e = directories_once width total count no_front bytes found (omega arith) none_sound are e

all_once : (bytes : List ℕ) (all : Flags) → are_bytes bytes ≡ true → all_at bytes ≡ Ok all → IsReadOnce bytes all.front.dirs all.limit all.front.flags
unfolding all_at
all_once bytes all are e =
    step_by head_once bytes _ all are e (λ counts after i1 b1 a1 e1.
    let found = bind_ok (directories_at counts.width counts.dirs counts.entries after) _ all e1 in
    let entries = refused_ok (not (eqb (entry_count found.0.0.dirs) counts.entries)) _ _ all found.2 in
    let least = refused_ok (is_bare counts.width found.0.0.dirs) _ _ all entries.1 in
    let none = refused_ok (not (is_empty found.0.1)) _ _ all least.1 in
    let same : record { limit = counts.limit; front = found.0.0 } ≡ all = ok_same _ _ none.1 in
    let read = fronts_once counts.width counts.dirs counts.entries after found.0 (omega (arith, b1.few)) a1 found.1 in
    subst (λ (x : Flags). IsReadOnce bytes x.front.dirs x.limit x.front.flags) same
    (read_all bytes after counts found.0 i1 b1 read (eqb-true (entry_count found.0.0.dirs) counts.entries (not_false _ entries.0)) least.0 (no_more found.0.1 none.0)))

-- with the flags by the rule it is the text that is written
same_texts : (width : Width) (tree : List Directory) (roll : Directory → Bool) (read : List Flagged) → map (λ (flag : Flag). flag.set) (map (λ (f : Flagged). f.flag) read) ≡ map roll (map (λ (f : Flagged). f.dir) read)
    → flat_map (flagged_image width tree) read ≡ rolled_image width tree roll (map (λ (f : Flagged). f.dir) read)
same_texts width tree roll [] h = refl
same_texts width tree roll (f ∷ read) h =
    let one : f.flag.set ≡ roll f.dir = cc in
    let others : map (λ (flag : Flag). flag.set) (map (λ (v : Flagged). v.flag) read) ≡ map roll (map (λ (v : Flagged). v.dir) read) = cc in
    let dir = f.dir in
    let number = parent_number tree dir.path in
    ap (λ b. parts_image width number b dir.path dir.rec dir.entries ++ flat_map (flagged_image width tree) read) one ∙ ap (λ (t : List ℕ). parts_image width number (roll dir) dir.path dir.rec dir.entries ++ t) (same_texts width tree roll read others)

unit_ok : {B : Type 0} (r : Result (Unit {0}) Flaw) (next : Result B Flaw) (y : B) → (r >> next) ≡ Ok y → (r ≡ Ok tt) × (next ≡ Ok y)
unit_ok (Ok x) next y h = (refl, h)
unit_ok (Err e) next y h = absurd cc

means_ok : (bytes : List ℕ) (r : Result Snap Flaw) (snap : Snap) → result_map_err (fault_in bytes) r ≡ Ok snap → r ≡ Ok snap
means_ok bytes (Ok x) snap h = cc
means_ok bytes (Err e) snap h = absurd cc

-- the image that bytes are, whose snapshot can be written
pub record IsImage (bytes : List ℕ) (snap : Snap) : Type 0 where
  pub all : AreAll snap.tree snap.limit
  pub is : bytes ≡ image_text snap.tree snap.limit

written_image : (bytes : List ℕ) (tree : List Directory) (limit : ℕ) (flags : List Flag) → IsReadOnce bytes tree limit flags → wrong_flag (roll_flags tree limit) flags ≡ Ok tt → bytes ≡ image_text tree limit
unfolding image_text
written_image bytes tree limit flags h ok =
    let roll = roll_of tree limit in
    let len : length (roll_flags tree limit) ≡ length flags =
    length-map tree roll ∙ ap length h.dirs ∙ length-map h.read (λ (f : Flagged). f.dir) ∙ sym (length-map h.read (λ (f : Flagged). f.flag)) ∙ ap length (sym h.flags_are) in
    let sets : map (λ (flag : Flag). flag.set) flags ≡ map roll tree = flags_once (roll_flags tree limit) flags len ok in
    let own : map (λ (flag : Flag). flag.set) (map (λ (f : Flagged). f.flag) h.read) ≡ map roll (map (λ (f : Flagged). f.dir) h.read) =
    ap (map (λ (flag : Flag). flag.set)) (sym h.flags_are) ∙ sets ∙ ap (map roll) h.dirs in
    let width = width_of tree in
    h.is ∙ ap (λ (t : List ℕ). head_image width tree limit ++ t) (same_texts width tree roll h.read own ∙ ap (rolled_image width tree roll) (sym h.dirs))

pub image_once : (bytes : List ℕ) (snap : Snap) → are_bytes bytes ≡ true → image_means bytes ≡ Ok snap → IsImage bytes snap
unfolding image_means snapshot_at
image_once bytes snap are e =
    let all = bind_ok (all_at bytes) _ snap (means_ok bytes _ snap e) in
    let rules = unit_ok (wrong_flag (roll_flags all.0.front.dirs all.0.limit) all.0.front.flags) _ snap all.2 in
    let same : record { tree = all.0.front.dirs; limit = all.0.limit } ≡ snap = ok_same _ _ rules.1 in
    let read = all_once bytes all.0 are all.1 in
    subst (λ (s : Snap). IsImage bytes s) same (record { all = read.all; is = written_image bytes all.0.front.dirs all.0.limit all.0.front.flags read rules.0 })
