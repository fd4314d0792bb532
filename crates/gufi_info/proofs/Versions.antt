-- The version of an image, by what its rows have.
use Rattle.std.proofs.Common.{◌≡◌, Bool, true, false, ◌||◌, List, [], ◌∷◌, map, refl, sym, ap, ◌∙◌}
use Rattle.std.specs.List.{list_any, flat_map}
use Rattle.std.proofs.lemmas.List.Folds.{list_any-append}
use Rattle.gufi_base.specs.declared.record.Row.{Row}
use Rattle.gufi_base.specs.Paths.{Components}
use Rattle.gufi_tree.specs.declared.tree.Entry.{Entry}
use Rattle.gufi_tree.specs.Tree.{Directory, entry_row, own_rows}
use Rattle.gufi_image.specs.declared.width.Width.{Width}
use Rattle.gufi_image.specs.declared.width.Width.TheVariants.{Named, Guarded}
use Rattle.gufi_image.specs.Widths.{version_of, width_of, record_needs, entries_need, tree_needs, least}
use Rattle.gufi_info.specs.declared.census.Census.{Census}
use Rattle.gufi_info.specs.Census.{census_of}

module _ (width : Width) where
  entries : (path : Components) (es : List Entry) → list_any (λ (row : Row). record_needs width row.rec) (map (entry_row path) es) ≡ entries_need width es
  entries path [] = refl
  entries path (e ∷ es) = ap (λ b. record_needs width e.rec || b) (entries path es)

  -- a row has it where a directory or one of its entries has it
  rows : (tree : List Directory) → list_any (λ (row : Row). record_needs width row.rec) (flat_map own_rows tree) ≡ tree_needs width tree
  rows [] = refl
  rows (dir ∷ tree) =
      list_any-append (λ (row : Row). record_needs width row.rec) (own_rows dir) (flat_map own_rows tree)
      ∙ (λ i. (record_needs width dir.rec || entries dir.path dir.entries i) || rows tree i)

version_by : (tree : List Directory) → version_of (least (census_of (flat_map own_rows tree)).acls (census_of (flat_map own_rows tree)).xattrs) ≡ version_of (width_of tree)
version_by tree = λ i. version_of (least (rows Guarded tree i) (rows Named tree i))

version_is : (census : Census) (tree : List Directory) (acls xattrs : Bool) → census ≡ census_of (flat_map own_rows tree) → census.acls ≡ acls → census.xattrs ≡ xattrs
    → version_of (least acls xattrs) ≡ version_of (width_of tree)
version_is census tree acls xattrs is one other =
    (λ i. version_of (least (sym one i) (sym other i))) ∙ ap (λ (c : Census). version_of (least c.acls c.xattrs)) is ∙ version_by tree

pub with_lists : (census : Census) (tree : List Directory) → census ≡ census_of (flat_map own_rows tree) → census.acls ≡ true → 3 ≡ version_of (width_of tree)
with_lists census tree is acls = version_is census tree true census.xattrs is acls refl

pub with_names : (census : Census) (tree : List Directory) → census ≡ census_of (flat_map own_rows tree) → census.acls ≡ false → census.xattrs ≡ true → 2 ≡ version_of (width_of tree)
with_names census tree is acls xattrs = version_is census tree false true is acls xattrs

pub with_neither : (census : Census) (tree : List Directory) → census ≡ census_of (flat_map own_rows tree) → census.acls ≡ false → census.xattrs ≡ false → 1 ≡ version_of (width_of tree)
with_neither census tree is acls xattrs = version_is census tree false false is acls xattrs

pub ruleset versions = (with_lists, with_names, with_neither)
