-- The image of a trace's tree is read back.
use Rattle.std.proofs.Common.{◌≡◌, ◌≢◌, true, not, [], ap, sym, ◌∙◌, ⊎_elim}
use Rattle.std.specs.List.{flat_map, list_all}
use Rattle.std.proofs.lemmas.Bool.{or_cases, false≢true}
use Rattle.gufi_base.specs.Basics.{is_empty}
use Rattle.gufi_base.specs.Paths.{Components, is_too_long}
use Rattle.gufi_tree.specs.Tree.{own_rows}
use Rattle.gufi_trace.specs.TraceTrees.{trace_root, TracesMeanSoundTrees}
use Rattle.gufi_image.specs.Laws.{ImagesReadBack}
use Rattle.gufi_top.specs.Laws.{TracesComeBackFromImages}

some_root : (root : Components) → not (is_empty root) ≡ true → root ≢ []
some_root root h e = false≢true (sym (ap (λ (p : Components). not (is_empty p)) e) ∙ h)

pub traces_back : TracesMeanSoundTrees → ImagesReadBack → TracesComeBackFromImages
traces_back sound back delim bytes tree limit fit means short few =
    let t = sound delim bytes tree fit means in
    back tree limit (record {
      sound = t.sound;
      few = t.few;
      short = ⊎_elim (λ h. t.short (some_root (trace_root delim bytes) h)) (λ h. h) (or_cases (not (is_empty (trace_root delim bytes))) (list_all (λ row. not (is_too_long row.path)) (flat_map own_rows tree)) short);
      fits = few;
    })
