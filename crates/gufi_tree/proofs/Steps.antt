-- Directories at their places, as a test of them goes.
use Rattle.std.proofs.Common.{◌≡◌, ℕ, ◌-◌, ◌<◌, true, false, List, [], length, get_or, refl, sym, ap, ◌∙◌, arith}
use Rattle.std.specs.Ordering.{is_lt}
use Rattle.std.proofs.lemmas.List.{get_or_default}
use Rattle.gufi_base.specs.Paths.{path_cmp, base_name, is_child_of}
use Rattle.gufi_tree.specs.Tree.{Directory, has_entry_named}
use Rattle.gufi_tree.specs.Places.{path_at}
use Rattle.gufi_tree.specs.Shape.{IsSoundBelow, IsSoundAt}
use Rattle.gufi_tree.proofs.Linked.{path_at-get}

module _ (tree : List Directory) where
  path_of_place : (k : ℕ) (d : Directory) → k < length tree → d ≡ get_or tree k d → path_at tree k ≡ d.path
  path_of_place k d lt is = path_at-get tree k d lt ∙ ap (λ (v : Directory). v.path) (sym is)

  pub sound_below : (place parent : ℕ) (dir before above : Directory) → 0 < place → place < length tree → parent < length tree → dir ≡ get_or tree place dir → before ≡ get_or tree (place - 1) before → above ≡ get_or tree parent above
      → is_lt (path_cmp before.path dir.path) ≡ true → is_child_of above.path dir.path ≡ true → has_entry_named (base_name dir.path) above ≡ false → IsSoundBelow tree place parent
  sound_below place parent dir before above some within low is_dir is_before is_above less child free =
      let path = path_of_place place dir within is_dir in
      let path_before = path_of_place (place - 1) before (omega (arith, within, some)) is_before in
      let path_above = path_of_place parent above low is_above in
      record {
        within = low;
        above = rw (path, path_before) less;
        child = rw (path, path_above) child;
        free = λ d.
            let at : get_or tree parent d ≡ above = get_or_default tree parent d above low ∙ sym is_above in
            rw (path, at) free;
      }

  pub sound_root : (place : ℕ) (first : Directory) → 0 < length tree → place ≡ 0 → first ≡ get_or tree 0 first → first.path ≡ [] → IsSoundAt tree place 0
  sound_root place first some zero_place is root = record {
    root = λ e. (refl, path_of_place 0 first some is ∙ root);
    below = λ lt. absurd (omega (arith, lt, zero_place));
  }
