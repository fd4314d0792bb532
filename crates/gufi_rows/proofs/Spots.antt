-- Texts that grow, and the paths that stand in them.
use Rattle.std.proofs.Common.{◌≡◌, ℕ, ◌≤◌, List, length, take, drop, sym, ap, ◌∙◌, subst, arith, length-append}
use Rattle.std.specs.Prelude.{Option, Some, None, IfSome}
use Rattle.std.specs.Ordering.{nat_cmp}
use Rattle.std.specs.Cmp.Lexicographic.{slice_cmp}
use Rattle.std.specs.declared.cmp.Ordering.TheVariants.{Less}
use Rattle.std.proofs.lemmas.List.{take-append-le}
use Rattle.gufi_rows.specs.declared.spot.Span.{Span}
use Rattle.gufi_rows.specs.declared.spot.Spot.{Spot}
use Rattle.gufi_base.specs.Paths.{Components, path_cmp, stem}
use Rattle.gufi_base.specs.PathParts.{ArePartsOf, path_of_parts}
use Rattle.gufi_rows.specs.PathLists.{Grows, IsSpan, IsSpot, StandsBehind, bytes_in, path_in}
use Rattle.gufi_rows.proofs.SameRow.{parts_again}
use Rattle.gufi_rows.proofs.PartOrders.{one_directory}

Grows-length : (text next : List ℕ) → Grows text next → length text ≤ length next
Grows-length text next g = omega (arith, ap length g.1, length-append text g.0)

pub bytes_in-grows : (text next : List ℕ) (span : Span) → Grows text next → IsSpan text span → bytes_in next span ≡ bytes_in text span
bytes_in-grows text next span g is = ap (λ (t : List ℕ). drop span.from (take span.end t)) g.1 ∙ ap (drop span.from) (take-append-le span.end text g.0 is.1)

pub IsSpan-grows : (text next : List ℕ) (span : Span) → Grows text next → IsSpan text span → IsSpan next span
IsSpan-grows text next span g is = (is.0, omega (arith, is.1, Grows-length text next g))

pub path_in-grows : (text next : List ℕ) (spot : Spot) → Grows text next → IsSpot text spot → path_in next spot ≡ path_in text spot
path_in-grows text next spot g is =
    ap (λ (s : List ℕ). path_of_parts s (bytes_in next spot.base)) (bytes_in-grows text next spot.stem g is.stem_in)
    ∙ ap (path_of_parts (bytes_in text spot.stem)) (bytes_in-grows text next spot.base g is.base_in)

pub parts_same : (f g l m : List ℕ) (p q : Components) → g ≡ f → m ≡ l → q ≡ p → ArePartsOf f l p → ArePartsOf g m q
parts_same f g l m p q s b e parts = rw (s, b, e) parts

pub IsSpot-grows : (text next : List ℕ) (spot : Spot) → Grows text next → IsSpot text spot → IsSpot next spot
IsSpot-grows text next spot g is = record {
  stem_in = IsSpan-grows text next spot.stem g is.stem_in;
  base_in = IsSpan-grows text next spot.base g is.base_in;
  parts = parts_same _ _ _ _ _ _ (bytes_in-grows text next spot.stem g is.stem_in) (bytes_in-grows text next spot.base g is.base_in) (path_in-grows text next spot g is) is.parts;
}

-- the path that parts have
path_of-parts : (front last : List ℕ) (path : Components) → ArePartsOf front last path → path_of_parts front last ≡ path
path_of-parts front last path parts =
    ap (λ (s : List ℕ). path_of_parts s last) parts.stem ∙ ap (path_of_parts (stem path)) parts.base ∙ parts_again path parts.names

-- a spot whose bytes are these parts
pub IsSpot-parts : (text front last : List ℕ) (spot : Spot) (path : Components) → IsSpan text spot.stem → IsSpan text spot.base
    → bytes_in text spot.stem ≡ front → bytes_in text spot.base ≡ last → ArePartsOf front last path → IsSpot text spot × (path_in text spot ≡ path)
IsSpot-parts text front last spot path stem_in base_in s b parts =
    let e : path_in text spot ≡ path = ap (λ (t : List ℕ). path_of_parts t (bytes_in text spot.base)) s ∙ ap (path_of_parts front) b ∙ path_of-parts front last path parts in
    (record { stem_in = stem_in; base_in = base_in; parts = parts_same _ _ _ _ _ _ s b e parts }, e)

-- a later name of the same stem
pub StandsBehind-stem : (text : List ℕ) (before : Spot) (stem : Span) (last : List ℕ) → IsSpot text before → before.stem ≡ stem
    → slice_cmp nat_cmp (bytes_in text before.base) last ≡ Less → StandsBehind text (Some before) (bytes_in text stem) last
StandsBehind-stem text before stem last is e less = λ path parts.
    sym (one_directory (bytes_in text before.stem) (bytes_in text before.base) last (path_in text before) path is.parts
    (subst (λ (s : Span). ArePartsOf (bytes_in text s) last path) (sym e) parts)) ∙ less

pub StandsBehind-grows : (text next : List ℕ) (last : Option Spot) (front name : List ℕ) → Grows text next → IfSome last (IsSpot text) → StandsBehind text last front name → StandsBehind next last front name
StandsBehind-grows text next None front name g is h = h
StandsBehind-grows text next (Some before) front name g is h = λ path parts.
    ap (λ (p : Components). path_cmp p path) (path_in-grows text next before g is) ∙ h path parts

pub IfSome-grows : (text next : List ℕ) (last : Option Spot) → Grows text next → IfSome last (IsSpot text) → IfSome last (IsSpot next)
IfSome-grows text next None g is = is
IfSome-grows text next (Some before) g is = IsSpot-grows text next before g is
