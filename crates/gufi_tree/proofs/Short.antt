-- How long the paths of directories in bundles are.
use Rattle.std.proofs.Common.{◌≡◌, ◌∙◌, ℕ, ◌+◌, ◌≤◌, ◌<◌, true, List, [], ◌∷◌, ◌++◌, length, take, drop, map, get_or, sym, ap, subst, arith}
use Rattle.std.specs.Prelude.{All}
use Rattle.std.proofs.lemmas.List.{length-take, map-append, take_all, take_more}
use Rattle.std.proofs.lemmas.List.Elements.{All-drop, All-map, All-push, All-take, All-weaker}
use Rattle.std.specs.declared.sync.Arc.{Arc}
use Rattle.std.specs.Arc.{arc_value}
use Rattle.gufi_base.specs.Names.{is_name}
use Rattle.gufi_tree.specs.declared.bundle.Head.{Head}
use Rattle.gufi_tree.specs.declared.bundle.Packed.{Packed}
use Rattle.gufi_tree.specs.declared.dirs.Place.{Place}
use Rattle.gufi_tree.specs.declared.tree.Entry.{Entry}
use Rattle.gufi_tree.specs.Bundles.{directory_in, entry_in, IsBundle, IsHead, IsPacked, IsShort}
use Rattle.gufi_tree.specs.Bundled.{directories_at, directory_at, lists_of, no_directory, Stands}
use Rattle.gufi_tree.specs.Tree.{Directory}

-- a directory in a bundle
head_short : (text : List ℕ) (rows : List Packed) (h : Head) (longest : ℕ) → IsHead text rows h → All (IsPacked text) rows → h.path ≤ longest → IsShort longest (directory_in text rows h)
head_short text rows h longest is packed le =
    let whole = ap length (is.path).whole in
    let size = length-take h.path (drop h.at text) in
    record {
      path = omega arith;
      names = (is.path).each;
      entries = All-map (λ (e : Entry). is_name e.name ≡ true) (entry_in text) (take h.count (drop h.first rows))
          (All-weaker (IsPacked text) (λ (p : Packed). is_name (entry_in text p).name ≡ true) (λ (p : Packed) (i : IsPacked text p). i.name) (take h.count (drop h.first rows)) (All-take (IsPacked text) h.count (drop h.first rows) (All-drop (IsPacked text) h.first rows packed)));
    }

pub bundle_short : (text : List ℕ) (rows : List Packed) (heads : List Head) (longest : ℕ) (seen : List Directory) → IsBundle text rows heads longest → map (directory_in text rows) heads ≡ seen → All (IsShort longest) seen
bundle_short text rows heads longest seen is view =
    subst (All (IsShort longest)) view (All-map (IsShort longest) (directory_in text rows) heads (λ k d lt. head_short text rows (get_or heads k d) longest (is.each k d lt) is.packed (is.short k d lt)))

weaker : (most next : ℕ) (ds : List Directory) → most ≤ next → All (IsShort most) ds → All (IsShort next) ds
weaker most next ds le = All-weaker (IsShort most) (IsShort next) (λ (d : Directory) (h : IsShort most d). let short = h.path in record { path = omega arith; names = h.names; entries = h.entries }) ds

-- a bundle more
pub short_more : {Z : Type 0} (bundles : List (Arc (List Directory) Z)) (i : ℕ) (b : Arc (List Directory) Z) (most own next : ℕ) → i < length bundles → b ≡ get_or bundles i b
    → All (All (IsShort most)) (map arc_value (take i bundles)) → All (IsShort own) (arc_value b) → most ≤ next → own ≤ next → All (All (IsShort next)) (map arc_value (take (i + 1) bundles))
short_more bundles i b most own next lt is before here le also =
    let e : map arc_value (take (i + 1) bundles) ≡ map arc_value (take i bundles) ++ arc_value b ∷ [] =
    ap (map arc_value) (take_more bundles i b lt ∙ ap (λ x. take i bundles ++ x ∷ []) (sym is)) ∙ map-append arc_value (take i bundles) (b ∷ []) in
    subst (All (All (IsShort next))) (sym e)
    (All-push (All (IsShort next)) (map arc_value (take i bundles)) (arc_value b) (All-weaker (All (IsShort most)) (All (IsShort next)) (λ (ds : List Directory) (h : All (IsShort most) ds). weaker most next ds le h) (map arc_value (take i bundles)) before) (weaker own next (arc_value b) also here))

-- the directories at places
pub places_short : {Z : Type 0} (bundles : List (Arc (List Directory) Z)) (last : List Directory) (places : List Place) (seen : List Directory) (least longest : ℕ) → All (All (IsShort longest)) (map arc_value bundles) → All (IsShort least) last → least ≤ longest
    → All (Stands (lists_of bundles last)) places → directories_at (lists_of bundles last) places ≡ seen → All (IsShort longest) seen
places_short bundles last places seen least longest each own le all view =
    let lists : All (All (IsShort longest)) (lists_of bundles last) = All-push (All (IsShort longest)) (map arc_value bundles) last each (weaker least longest last le own) in
    subst (All (IsShort longest)) view (All-map (IsShort longest) (directory_at (lists_of bundles last)) places (λ k d lt.
    let here = all k d lt in
    lists (get_or places k d).bundle [] here.bundle (get_or places k d).head no_directory here.within))

-- all bundles were seen
pub short_all : {Z : Type 0} (bundles : List (Arc (List Directory) Z)) (i longest : ℕ) → length bundles ≤ i → All (All (IsShort longest)) (map arc_value (take i bundles)) → All (All (IsShort longest)) (map arc_value bundles)
short_all bundles i longest enough all = subst (λ bs. All (All (IsShort longest)) (map arc_value bs)) (take_all i bundles enough) all
