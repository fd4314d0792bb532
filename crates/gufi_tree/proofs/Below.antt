-- What is at and below a directory: itself, and what is at and below its subdirectories. It is what one may list who may list everything.
use Rattle.std.proofs.Common.{◌≡◌, Bool, true, false, not, ◌&&◌, ◌||◌, List, [], ◌∷◌, refl, ap, ◌∙◌, subst}
use Rattle.std.specs.List.{filter, flat_map, list_all}
use Rattle.std.specs.List.Sorted.{IsPermutation}
use Rattle.gufi_base.specs.Paths.{Components, is_prefix}
use Rattle.gufi_access.specs.declared.class.Principal.{Principal}
use Rattle.gufi_access.specs.Access.{is_granted, can_list, principal}
use Rattle.gufi_tree.specs.Tree.{Directory, subdirs, may_list, HasTreeShape}
use Rattle.gufi_tree.specs.Listed.{is_between}
use Rattle.gufi_tree.proofs.Built.{Has}
use Rattle.gufi_tree.proofs.Filters.{filter-agree}
use Rattle.gufi_tree.proofs.Flat.{found-has_dir}
use Rattle.gufi_tree.proofs.Fronts.{listed_dirs, open_dirs, listed_dirs-step, flat_map-agree}

-- the directories at and below the path
abbrev pub below_dirs : List Directory → Components → List Directory
below_dirs tree path = filter (λ dir. is_prefix path dir.path) tree

abbrev superuser : Principal
superuser = principal 0 []

lists_all : (d : Directory) → may_list superuser d ≡ true
unfolding can_list is_granted
lists_all d = refl

or_true : (b : Bool) → (b || true) ≡ true
or_true true = refl
or_true false = refl

and_true : (b : Bool) → (b && true) ≡ b
and_true true = refl
and_true false = refl

all_between : (start path : Components) (ds : List Directory) → list_all (λ dir. not (is_between start path dir.path) || may_list superuser dir) ds ≡ true
all_between start path [] = refl
all_between start path (d ∷ ds) = rw (lists_all d, or_true (not (is_between start path d.path)), all_between start path ds) refl

module _ (tree : List Directory) where
  listed_below : (start : Components) → listed_dirs tree superuser start ≡ below_dirs tree start
  listed_below start = filter-agree _ _ tree (λ c h.
      ap (λ b. is_prefix start c.path && b && list_all (λ dir. not (is_between start c.path dir.path) || may_list superuser dir) tree) (found-has_dir tree c h)
      ∙ ap (λ b. is_prefix start c.path && true && b) (all_between start c.path tree)
      ∙ and_true (is_prefix start c.path && true) ∙ and_true (is_prefix start c.path))

  open_all : (path : Components) → open_dirs tree superuser path ≡ subdirs tree path
  open_all path = kept_all (subdirs tree path) where
    kept_all : (ds : List Directory) → filter (may_list superuser) ds ≡ ds
    kept_all [] = refl
    kept_all (d ∷ ds) = rw (lists_all d) (ap (λ l. d ∷ l) (kept_all ds))

  -- a directory is at and below itself, and so is what is at and below its subdirectories
  pub below_dirs-step : HasTreeShape tree → (d : Directory) → Has tree d → IsPermutation (below_dirs tree d.path) (d ∷ flat_map (λ k. below_dirs tree k.path) (subdirs tree d.path))
  below_dirs-step shape d there =
      let each : flat_map (λ k. listed_dirs tree superuser k.path) (open_dirs tree superuser d.path) ≡ flat_map (λ k. below_dirs tree k.path) (subdirs tree d.path) =
      ap (flat_map (λ k. listed_dirs tree superuser k.path)) (open_all d.path)
      ∙ flat_map-agree (λ k. listed_dirs tree superuser k.path) (λ k. below_dirs tree k.path) (subdirs tree d.path) (λ k h. listed_below k.path) in
      subst (λ l. IsPermutation l (d ∷ flat_map (λ k. below_dirs tree k.path) (subdirs tree d.path))) (listed_below d.path)
      (subst (λ l. IsPermutation (listed_dirs tree superuser d.path) (d ∷ l)) each (listed_dirs-step tree superuser shape d there (lists_all d)))
