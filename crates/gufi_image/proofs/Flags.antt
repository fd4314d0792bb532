-- Flags looked at one after the other.
use Rattle.std.proofs.Common.{◌≡◌, ℕ, zero, suc, ◌+◌, ◌<◌, ◌≤◌, Bool, true, false, List, [], ◌∷◌, length, map, drop, get_or, Result, Ok, Err, refl, sym, ap, ◌∙◌, arith}
use Rattle.std.proofs.Math.Seq.{drop-cons}
use Rattle.std.proofs.lemmas.List.{length-map, get_or-map}
use Rattle.std.proofs.Math.ListN.{drop_of_length-le}
use Rattle.gufi_base.specs.Basics.{◌>>◌, refuse}
use Rattle.gufi_tree.specs.Tree.{Directory}
use Rattle.gufi_tree.specs.Places.{path_at}
use Rattle.gufi_roll.specs.CanRoll.{can_roll, roll_flags}
use Rattle.gufi_image.specs.declared.fault.Flaw.{Flaw}
use Rattle.gufi_image.specs.declared.fault.ImageKind.TheVariants as kinds
use Rattle.gufi_image.specs.declared.directory.Flag.{Flag}
use Rattle.gufi_image.specs.Views.{nearer}
use Rattle.gufi_image.specs.Reading.{differs, wrong_flag}

rolled_there : (tree : List Directory) (limit : ℕ) (dirs : List Directory) (i : ℕ) (b : Bool) → i < length dirs → get_or (map (λ (d : Directory). can_roll tree limit d.path) dirs) i b ≡ can_roll tree limit (path_at dirs i)
rolled_there tree limit [] i b lt = absurd (omega (arith, lt))
rolled_there tree limit (d ∷ ds) zero b lt = refl
rolled_there tree limit (d ∷ ds) (suc i) b lt = rolled_there tree limit ds i b (omega (arith, lt))

no_flags : (rolls : List Bool) → wrong_flag rolls [] ≡ Ok tt
no_flags [] = refl
no_flags (r ∷ rolls) = refl

pub flags_end : (rolls : List Bool) (flags : List Flag) (i : ℕ) (whole : Result (Unit {0}) Flaw) → length flags ≤ i → wrong_flag (drop i rolls) (drop i flags) ≡ whole → whole ≡ Ok tt
flags_end rolls flags i whole le so_far = sym so_far ∙ ap (λ (fs : List Flag). wrong_flag (drop i rolls) fs) (drop_of_length-le flags le) ∙ no_flags (drop i rolls)

-- one flag more
module _ (k : ℕ) (tree : List Directory) (limit : ℕ) (kept : List Flag) (i : ℕ) (rolled : Bool) (d : Flag) (whole : Result (Unit {0}) Flaw) (within : i < length tree) (flagged : i < length kept)
    (rule : rolled ≡ can_roll tree limit (path_at tree i)) (so_far : wrong_flag (drop i (roll_flags tree limit)) (drop i (map (nearer k) kept)) ≡ whole) where
  abbrev flags : List Flag
  flags = map (nearer k) kept

  abbrev flag : Flag
  flag = nearer k (get_or kept i d)

  next : (refuse (differs flag.set rolled) (record { left = flag.left; kind = kinds.Roll }) >> wrong_flag (drop (i + 1) (roll_flags tree limit)) (drop (i + 1) flags)) ≡ whole
  next =
      let rolls = roll_flags tree limit in
      let one : suc i ≡ i + 1 = omega arith in
      let here : get_or rolls i rolled ≡ rolled = rolled_there tree limit tree i rolled within ∙ sym rule in
      let first : drop i rolls ≡ rolled ∷ drop (i + 1) rolls =
      drop-cons rolls i rolled (omega (arith, within, length-map tree (λ (v : Directory). can_roll tree limit v.path)))
      ∙ ap (λ b. b ∷ drop (suc i) rolls) here
      ∙ ap (λ n. rolled ∷ drop n rolls) one
      in
      let second : drop i flags ≡ flag ∷ drop (i + 1) flags =
      drop-cons flags i (nearer k d) (omega (arith, flagged, length-map kept (nearer k)))
      ∙ ap (λ (f : Flag). f ∷ drop (suc i) flags) (get_or-map (nearer k) kept i d (nearer k d) flagged)
      ∙ ap (λ n. flag ∷ drop n flags) one
      in
      let both : wrong_flag (drop i rolls) (drop i flags) ≡ wrong_flag (rolled ∷ drop (i + 1) rolls) (flag ∷ drop (i + 1) flags) =
      ap (λ (rs : List Bool). wrong_flag rs (drop i flags)) first ∙ ap (λ (fs : List Flag). wrong_flag (rolled ∷ drop (i + 1) rolls) fs) second
      in
      sym both ∙ so_far

  pub flag_differs : differs flag.set rolled ≡ true → whole ≡ Err (record { left = flag.left; kind = kinds.Roll })
  flag_differs e = sym next ∙ ap (λ b. refuse b (record { left = flag.left; kind = kinds.Roll }) >> wrong_flag (drop (i + 1) (roll_flags tree limit)) (drop (i + 1) flags)) e

  pub flag_holds : differs flag.set rolled ≡ false → wrong_flag (drop (i + 1) (roll_flags tree limit)) (drop (i + 1) flags) ≡ whole
  flag_holds e = sym (ap (λ b. refuse b (record { left = flag.left; kind = kinds.Roll }) >> wrong_flag (drop (i + 1) (roll_flags tree limit)) (drop (i + 1) flags)) e) ∙ next
