-- What lanes with ascending numbers keep can be told by their numbers.
use Rattle.std.proofs.Common.{◌≡◌, ℕ, ◌+◌, ◌<◌, ◌≤◌, Bool, true, false, List, [], ◌∷◌, ◌++◌, length, take, get_or, refl, sym, ap, ◌∙◌, subst, All, arith}
use Rattle.std.specs.Prelude.{None, ◌==◌, if◌then◌else◌}
use Rattle.std.proofs.lemmas.Bool.Decides.{Decides-eqb}
use Rattle.std.proofs.lemmas.List.{take_more}
use Rattle.std.proofs.lemmas.List.Elements.{All-push, All-nil}
use Rattle.gufi_phases.specs.declared.keeping.Lane.{Lane}
use Rattle.gufi_phases.specs.Keeping.{Keeping, with_lane}
use Rattle.gufi_phases.specs.Lanes.{KeepAs}

-- These lanes have numbers up to `last`, and what each keeps is told by its number.
pub record AreTold (last : ℕ) (lanes : List Lane) : Type 0 where
  pub before : ℕ → Keeping
  pub kept : KeepAs before lanes
  pub low : All (λ lane. lane.number ≤ last) lanes

pub told_none : AreTold 0 []
told_none = record { before = λ number. None; kept = All-nil (λ lane. lane.kept ≡ None); low = All-nil (λ lane. lane.number ≤ 0) }

pub told_more : (last : ℕ) (lanes : List Lane) (at : ℕ) (lane : Lane) → at < length lanes → lane ≡ get_or lanes at lane → last < lane.number → AreTold last (take at lanes) → AreTold lane.number (take (at + 1) lanes)
told_more last lanes at lane inside is above told =
    let longer : take (at + 1) lanes ≡ take at lanes ++ lane ∷ [] = take_more lanes at lane inside ∙ ap (λ x. take at lanes ++ x ∷ []) (sym is) in
    let now = with_lane lane.number lane.kept told.before in
    subst (AreTold lane.number) (sym longer)
    (record {
      before = now;
      kept = All-push (λ one. one.kept ≡ now one.number) (take at lanes) lane (λ k d below. other (get_or (take at lanes) k d) (told.kept k d below) (told.low k d below)) (own (lane.number == lane.number) refl);
      low = All-push (λ one. one.number ≤ lane.number) (take at lanes) lane (λ k d below. let low = told.low k d below in omega arith) (let same : lane.number ≤ lane.number = omega arith in same);
    })
  where
    own : (same : Bool) → (lane.number == lane.number) ≡ same → lane.kept ≡ (if same then lane.kept else told.before lane.number)
    own true e = refl
    own false e = absurd (let yes = (Decides-eqb lane.number lane.number).1 refl in let no : true ≡ false = sym yes ∙ e in absurd cc)

    other : (one : Lane) → one.kept ≡ told.before one.number → one.number ≤ last → one.kept ≡ with_lane lane.number lane.kept told.before one.number
    other one kept low = by (one.number == lane.number) refl
      where
        by : (same : Bool) → (one.number == lane.number) ≡ same → one.kept ≡ (if same then lane.kept else told.before one.number)
        by true e = absurd (let same = (Decides-eqb one.number lane.number).0 e in omega arith)
        by false e = kept
