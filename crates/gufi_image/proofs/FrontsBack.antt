-- Directories one after the other, read as they are written and in no other spelling.
use Rattle.std.proofs.Common.{◌≡◌, ℕ, zero, suc, ◌+◌, ◌<◌, ◌^◌, Bool, true, List, [], ◌∷◌, ◌++◌, length, map, Some, Ok, refl, sym, ap, subst, ◌∙◌, arith, append_assoc, inl, inr, ◌⊎◌}
use Rattle.std.specs.Prelude.{slice_get}
use Rattle.std.specs.List.{flat_map}
use Rattle.std.proofs.lemmas.List.{append-nil, length-append}
use Rattle.gufi_base.specs.Basics.{ascends}
use Rattle.gufi_base.specs.Rows.{are_bytes}
use Rattle.gufi_tree.specs.Tree.{Directory, dir_cmp}
use Rattle.gufi_image.specs.declared.width.Width.{Width}
use Rattle.gufi_image.specs.declared.directory.Flag.{Flag}
use Rattle.gufi_image.specs.Image.{parent_number, parts_image}
use Rattle.gufi_image.specs.Directories.{Flagged, Front, with_one, one_directory}
use Rattle.gufi_image.specs.Repeated.{repeated}
use Rattle.gufi_image.proofs.Repeats.{bind_ok}
use Rattle.gufi_image.proofs.Searches.{some_same}
use Rattle.gufi_image.proofs.Shape.{placed_order}
use Rattle.gufi_image.proofs.FieldsBack.{ok_same, step_by}
use Rattle.gufi_image.proofs.PathsBack.{IsSound, AreSound, next_placed, next_sound, number_more}
use Rattle.gufi_image.proofs.DirectoriesBack.{IsNextDirectory, flagged_image, directory_back, directory_once}

-- one directory more
there_before : {X : Type 0} (xs : List X) (x : X) (i : ℕ) (y : X) → slice_get (xs ++ x ∷ []) i ≡ Some y → (slice_get xs i ≡ Some y) ⊎ (x ≡ y)
there_before [] x zero y e = inr (some_same x y e)
there_before [] x (suc i) y e = absurd cc
there_before (z ∷ xs) x zero y e = inl e
there_before (z ∷ xs) x (suc i) y e = there_before xs x i y e

sound_more : (width : Width) (total : ℕ) (dirs : List Directory) (dir : Directory) → length dirs + 1 < 2 ^ 32 → AreSound dirs → IsNextDirectory width total dirs dir → AreSound (dirs ++ dir ∷ [])
sound_more width total dirs dir few all h = record {
  order = placed_order dirs dir all.order (next_placed dirs dir.path h.path);
  few = omega (arith, length-append dirs (dir ∷ []));
  sound = λ i d there. by i d (there_before dirs dir i d there);
} where
  by : (i : ℕ) (d : Directory) → (slice_get dirs i ≡ Some d) ⊎ (dir ≡ d) → IsSound d.path
  by i d (inl there) = all.sound i d there
  by i d (inr same) = subst (λ (v : Directory). IsSound v.path) same (next_sound dirs dir.path h.path)

-- directories behind those before them
abbrev pub AreNextDirectories : Width → ℕ → List Directory → List Directory → Type 0
AreNextDirectories width total dirs [] = Unit {0}
AreNextDirectories width total dirs (dir ∷ more) = IsNextDirectory width total dirs dir × AreNextDirectories width total (dirs ++ dir ∷ []) more

-- their text, with the parents' numbers among the directories of a tree, and a flag for each
abbrev pub rolled_image : Width → List Directory → (Directory → Bool) → List Directory → List ℕ
rolled_image width tree roll dirs = flat_map (λ (dir : Directory). parts_image width (parent_number tree dir.path) (roll dir) dir.path dir.rec dir.entries) dirs

-- what is read of them
pub record AreReadBack (width : Width) (total : ℕ) (roll : Directory → Bool) (front : Front) (dirs : List Directory) (bytes rest : List ℕ) : Type 0 where
  pub flags : List Flag
  pub set : map (λ (flag : Flag). flag.set) flags ≡ map roll dirs
  pub is : repeated (one_directory width total) (length dirs) front bytes ≡ Ok (record { dirs = front.dirs ++ dirs; flags = front.flags ++ flags }, rest)

pub directories_back : (width : Width) (total : ℕ) (tree : List Directory) (roll : Directory → Bool) (dirs : List Directory) (front : Front) (rest : List ℕ) → total < 2 ^ 32 → length tree < 2 ^ 32 → ascends dir_cmp tree ≡ true
    → tree ≡ front.dirs ++ dirs → AreSound front.dirs → AreNextDirectories width total front.dirs dirs → AreReadBack width total roll front dirs (rolled_image width tree roll dirs ++ rest) rest
directories_back width total tree roll [] front rest small few up whole all h = record {
  flags = [];
  set = refl;
  is = ap (λ (ds : List Directory). Ok (record { dirs = ds; flags = front.flags }, rest)) (sym (append-nil front.dirs)) ∙ ap (λ (fs : List Flag). Ok (record { dirs = front.dirs ++ []; flags = fs }, rest)) (sym (append-nil front.flags));
}
directories_back width total tree roll (dir ∷ dirs) front rest small few up whole all h =
    let text = rolled_image width tree roll dirs ++ rest in
    let number : parent_number tree dir.path ≡ parent_number front.dirs dir.path =
    ap (λ (ds : List Directory). parent_number ds dir.path) whole ∙ sym (number_more front.dirs (dir ∷ dirs) dir.path all.order (ap (ascends dir_cmp) (sym whole) ∙ up) (next_placed front.dirs dir.path h.0.path)) in
    let one = directory_back width total front.dirs dir (roll dir) text small all h.0 in
    let f : Flagged = record { dir = dir; flag = record { set = roll dir; left = one.0 } } in
    let len = ap length whole in
    let fits : length front.dirs + 1 < 2 ^ 32 = omega (arith, len, length-append front.dirs (dir ∷ dirs)) in
    let others = directories_back width total tree roll dirs (with_one front f) rest small few up (whole ∙ sym (append_assoc front.dirs (dir ∷ []) dirs)) (sound_more width total front.dirs dir fits all h.0) h.1 in
    let own : rolled_image width tree roll (dir ∷ dirs) ++ rest ≡ parts_image width (parent_number front.dirs dir.path) (roll dir) dir.path dir.rec dir.entries ++ text =
    append_assoc (parts_image width (parent_number tree dir.path) (roll dir) dir.path dir.rec dir.entries) (rolled_image width tree roll dirs) rest ∙ ap (λ n. parts_image width n (roll dir) dir.path dir.rec dir.entries ++ text) number in
    record {
      flags = f.flag ∷ others.flags;
      set = ap (λ (bs : List Bool). roll dir ∷ bs) others.set;
      is = rw (own, one.1) (others.is ∙ ap (λ (ds : List Directory). Ok (record { dirs = ds; flags = (front.flags ++ f.flag ∷ []) ++ others.flags }, rest)) (append_assoc front.dirs (dir ∷ []) dirs)
          ∙ ap (λ (fs : List Flag). Ok (record { dirs = front.dirs ++ dir ∷ dirs; flags = fs }, rest)) (append_assoc front.flags (f.flag ∷ []) others.flags));
    }

-- What so many steps read.
pub record AreReadOnce (width : Width) (total count : ℕ) (front : Front) (bytes : List ℕ) (found : Front × List ℕ) : Type 0 where
  pub read : List Flagged
  pub dirs : found.0.dirs ≡ front.dirs ++ map (λ (f : Flagged). f.dir) read
  pub flags : found.0.flags ≡ front.flags ++ map (λ (f : Flagged). f.flag) read
  pub number : length read ≡ count
  pub sound : AreSound found.0.dirs
  pub is : bytes ≡ flat_map (flagged_image width found.0.dirs) read ++ found.1
  pub next : AreNextDirectories width total front.dirs (map (λ (f : Flagged). f.dir) read)
  pub rest : are_bytes found.1 ≡ true

pub directories_once : (width : Width) (total count : ℕ) (front : Front) (bytes : List ℕ) (found : Front × List ℕ) → length front.dirs + count < 2 ^ 32 → AreSound front.dirs → are_bytes bytes ≡ true
    → repeated (one_directory width total) count front bytes ≡ Ok found → AreReadOnce width total count front bytes found
directories_once width total zero front bytes found few all are e =
    let same : (front, bytes) ≡ found = ok_same _ _ e in
    subst (AreReadOnce width total 0 front bytes) same (record { read = []; dirs = sym (append-nil front.dirs); flags = sym (append-nil front.flags); number = refl; sound = all; is = refl; next = tt; rest = are })
directories_once width total (suc count) front bytes found few all are e =
    let one = bind_ok (one_directory width total front bytes) (λ more. repeated (one_directory width total) count more.0 more.1) found e in
    step_by (λ bs x ok same. directory_once width total front.dirs bs x all ok same) bytes (λ f. Ok (with_one front f.0, f.1)) one.0 are one.1 (λ f after is holds rest same.
    let more : (with_one front f, after) ≡ one.0 = ok_same _ _ same in
    let on : repeated (one_directory width total) count (with_one front f) after ≡ Ok found = subst (λ (x : Front × List ℕ). repeated (one_directory width total) count x.0 x.1 ≡ Ok found) (sym more) one.2 in
    let sound = sound_more width total front.dirs f.dir (omega arith) all holds in
    let others = directories_once width total count (with_one front f) after found (omega (arith, length-append front.dirs (f.dir ∷ []))) sound rest on in
    let whole : found.0.dirs ≡ front.dirs ++ f.dir ∷ map (λ (v : Flagged). v.dir) others.read = others.dirs ∙ append_assoc front.dirs (f.dir ∷ []) (map (λ (v : Flagged). v.dir) others.read) in
    let up : ascends dir_cmp (front.dirs ++ f.dir ∷ map (λ (v : Flagged). v.dir) others.read) ≡ true = ap (ascends dir_cmp) (sym whole) ∙ others.sound.order in
    let number : parent_number front.dirs f.dir.path ≡ parent_number found.0.dirs f.dir.path =
    number_more front.dirs (f.dir ∷ map (λ (v : Flagged). v.dir) others.read) f.dir.path all.order up (next_placed front.dirs f.dir.path holds.path) ∙ ap (λ (ds : List Directory). parent_number ds f.dir.path) (sym whole) in
    let own : flagged_image width front.dirs f ≡ flagged_image width found.0.dirs f = ap (λ n. parts_image width n f.flag.set f.dir.path f.dir.rec f.dir.entries) number in
    record {
      read = f ∷ others.read;
      dirs = whole;
      flags = others.flags ∙ append_assoc front.flags (f.flag ∷ []) (map (λ (v : Flagged). v.flag) others.read);
      number = ap suc others.number;
      sound = others.sound;
      is = is ∙ ap (λ (t : List ℕ). t ++ after) own ∙ ap (λ (t : List ℕ). flagged_image width found.0.dirs f ++ t) others.is ∙ sym (append_assoc (flagged_image width found.0.dirs f) (flat_map (flagged_image width found.0.dirs) others.read) found.1);
      next = (holds, others.next);
      rest = others.rest;
    })
