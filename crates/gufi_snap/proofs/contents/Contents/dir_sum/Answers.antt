use Rattle.std.proofs.Common.{◌≡◌, ℕ, ◌<◌, List, length, get_or, sym, ap, subst, arith}
use Rattle.gufi_tree.specs.Tree.{Directory, own_rows, home_rows, HasTreeShape}
use Rattle.gufi_tree.specs.Places.{path_at}
use Rattle.gufi_tree.proofs.Kids.{at_place}
use Rattle.gufi_sums.specs.declared.summary.Summary.{Summary}
use Rattle.gufi_sums.specs.Total.{IsTotal}
use Rattle.gufi_snap.proofs.Growing.{entries_few}
use Rattle.gufi_snap.proofs.Pieces.{home_total}
use Rattle.gufi_snap.proofs.contents.Contents.dir_sum.Goals as goal

-- the tree inside is the one that contracts see
place_inside : (tree seen : List Directory) → tree ≡ seen → (k : ℕ) → k < length seen → k < length tree
place_inside tree seen e k within = subst (λ (t : List Directory). k < length t) (sym e) within

home_inside : (tree seen : List Directory) → tree ≡ seen → (k : ℕ) (d : Directory) (sum : Summary) → HasTreeShape tree → k < length seen
    → IsTotal sum (own_rows (get_or tree k d)) → IsTotal sum (home_rows seen (path_at seen k))
home_inside tree seen e k d sum shape within h =
    subst (λ (t : List Directory). IsTotal sum (home_rows t (path_at t k))) e (home_total tree k d sum shape (place_inside tree seen e k within) h)

pub own-requires : goal.own-requires
own-requires c = omega (arith, (c.self.invariant.kept c.in-Some.sums c.in-Some.is).own.len, ap length c.self.view_is, c.requires)

pub returns-in-Some : goal.returns-in-Some
returns-in-Some c =
    let tree = c.self.inside.tree in
    let k = c.args.id.0 in
    let sum = c.own.result.now in
    let within : k < length tree = place_inside tree c.args.self.now c.self.view_is k c.requires in
    let d : Directory = (at_place tree k within).0 in
    home_inside tree c.args.self.now c.self.view_is k d sum c.self.invariant.shape c.requires
    (subst (λ (s : Summary). IsTotal s (own_rows (get_or tree k d))) (sym (c.own.ensures sum)) ((c.self.invariant.kept c.in-Some.sums c.in-Some.is).own.each k d sum within))

pub own_sum-requires : goal.own_sum-requires
own_sum-requires c =
    let tree = c.self.inside.tree in
    let k = c.args.id.0 in
    entries_few tree k c.dir.result (place_inside tree c.args.self.now c.self.view_is k c.requires) c.self.invariant.few (c.dir.ensures.value c.dir.result)

pub returns-in-None : goal.returns-in-None
returns-in-None c =
    let d = c.dir.result in
    home_inside c.self.inside.tree c.args.self.now c.self.view_is c.args.id.0 d c.own_sum.result c.self.invariant.shape c.requires
    (subst (λ (x : Directory). IsTotal c.own_sum.result (own_rows x)) (c.dir.ensures.value d) c.own_sum.ensures)
