-- Traces of indexes are read back, and images of these come back.
use Rattle.std.proofs.Common.{◌≡◌, ℕ, Bool, true, false, not, List, [], length, refl, sym, ap, ◌∙◌}
use Rattle.std.specs.Prelude.{Some, Result, Ok, Err, nat_lt}
use Rattle.gufi_io.specs.Files.{Files}
use Rattle.gufi_base.specs.Basics.{◌>>=◌, ◌>>◌, refuse, result_map_err}
use Rattle.gufi_base.specs.Limits.{max_trace, max_image}
use Rattle.gufi_base.specs.Rows.{are_bytes}
use Rattle.gufi_tree.specs.Tree.{Directory, is_program_tree, is_too_large}
use Rattle.gufi_snap.specs.Snap.{Snap}
use Rattle.gufi_trace.specs.TraceText.{trace_means}
use Rattle.gufi_trace.specs.TraceTrees.{TracesMeanSoundTrees}
use Rattle.gufi_trace.specs.TraceWriting.{written_trace, TraceReadsBack}
use Rattle.gufi_image.specs.Image.{image_text}
use Rattle.gufi_image.specs.Reading.{image_means}
use Rattle.gufi_image.specs.Laws.{ImagesHaveOneSpelling, ReadImagesAreWritable}
use Rattle.gufi_top.specs.Reasons.{Reason, past_limit, unwritten_reason, file_in, tree_within, trace_in, trace_reason, image_reason, image_within, image_in, rolled_under, traced_in, is_image, index_in}
use Rattle.gufi_top.specs.Verdict.{Verdict, writes, runs, writes_only, trace_written, index2trace_over, command_over}
use Rattle.gufi_top.specs.Laws.{IndexesComeBackFromTraces, ImagesComeBackFromTraces}
use Rattle.gufi_top.proofs.IndexLemmas.{index_is}

-- ---- steps that gave something

then_ok : {A B : Type 0} (r : Result A Reason) (next : A → Result B Reason) (y : B) → r >>= next ≡ Ok y → (x : A) × (r ≡ Ok x) × (next x ≡ Ok y)
then_ok (Ok x) next y is = (x, refl, is)
then_ok (Err why) next y is = absurd cc

ok_same : {A E : Type 0} (x y : A) → ◌≡◌ {A = Result A E} (Ok x) (Ok y) → x ≡ y
ok_same x y is = cc

mapped_ok : {A E F : Type 0} (f : E → F) (r : Result A E) (x : A) → result_map_err f r ≡ Ok x → r ≡ Ok x
mapped_ok f (Ok y) x is = ap Ok (ok_same y x is)
mapped_ok f (Err e) x is = absurd cc

within_limit : (limit : Bool) (why : Reason) (bytes read : List ℕ) → (refuse limit why >> Ok bytes) ≡ Ok read → read ≡ bytes
within_limit true why bytes read is = absurd cc
within_limit false why bytes read is = sym (ok_same bytes read is)

file_bytes : (max : ℕ) (files : Files) (name bytes read : List ℕ) → files name ≡ Some bytes → file_in max name files ≡ Ok read → read ≡ bytes
unfolding file_in
file_bytes max files name bytes read holds is = within_limit (nat_lt max (length bytes)) (past_limit name max) bytes read (rw holds at is)

image_bytes : (files : Files) (name bytes : List ℕ) (snap : Snap) → files name ≡ Some bytes → image_in name files ≡ Ok snap → image_means bytes ≡ Ok snap
unfolding image_in image_within
image_bytes files name bytes snap holds is =
    let step = then_ok (file_in max_image name files) (image_within name) snap is in
    ap image_means (sym (file_bytes max_image files name bytes step.0 holds step.1)) ∙ mapped_ok (image_reason name) (image_means step.0) snap step.2

trace_bytes : (delim : ℕ) (files : Files) (name bytes : List ℕ) (tree : List Directory) → files name ≡ Some bytes → trace_in delim name files ≡ Ok tree → trace_means delim bytes ≡ Ok tree
unfolding trace_in tree_within
trace_bytes delim files name bytes tree holds is =
    let step = then_ok (file_in max_trace name files) (tree_within delim name) tree is in
    ap (trace_means delim) (sym (file_bytes max_trace files name bytes step.0 holds step.1)) ∙ mapped_ok (trace_reason name) (trace_means delim step.0) tree step.2

-- of an index that is no image
traced_tree : (delim limit : ℕ) (files : Files) (name : List ℕ) (snap : Snap) → traced_in delim limit name files ≡ Ok snap → trace_in delim name files ≡ Ok snap.tree
unfolding traced_in
traced_tree delim limit files name snap is =
    let step = then_ok (trace_in delim name files) (rolled_under limit) snap is in
    step.1 ∙ ap (λ (s : Snap). Ok s.tree) (ok_same _ snap step.2)

-- ---- the tree of an index

-- it hangs on no limit
same_tree : (image : Bool) (delim limit other : ℕ) (files : Files) (index bytes : List ℕ) (snap found : Snap) → files index ≡ Some bytes → is_image bytes ≡ image
    → index_in delim limit index files ≡ Ok snap → index_in delim other index files ≡ Ok found → found.tree ≡ snap.tree
same_tree true delim limit other files index bytes snap found holds is one two =
    let a = sym (index_is files delim limit index bytes true holds is) ∙ one in
    let b = sym (index_is files delim other index bytes true holds is) ∙ two in
    ap (λ (s : Snap). s.tree) (ok_same found snap (sym b ∙ a))
same_tree false delim limit other files index bytes snap found holds is one two =
    let a = traced_tree delim limit files index snap (sym (index_is files delim limit index bytes false holds is) ∙ one) in
    let b = traced_tree delim other files index found (sym (index_is files delim other index bytes false holds is) ∙ two) in
    ok_same found.tree snap.tree (sym b ∙ a)

module _ (sound : TracesMeanSoundTrees) (writable : ReadImagesAreWritable) where
  -- and it can be written
  sound_tree : (image : Bool) (delim limit : ℕ) (files : Files) (index bytes : List ℕ) (snap : Snap) → files index ≡ Some bytes → are_bytes bytes ≡ true → is_image bytes ≡ image
      → index_in delim limit index files ≡ Ok snap → (is_program_tree snap.tree ≡ true) × (not (is_too_large snap.tree) ≡ true)
  sound_tree true delim limit files index bytes snap holds fit is one =
      let w = writable bytes snap fit (image_bytes files index bytes snap holds (sym (index_is files delim limit index bytes true holds is) ∙ one)) in (w.sound, w.few)
  sound_tree false delim limit files index bytes snap holds fit is one =
      let w = sound delim bytes snap.tree fit (trace_bytes delim files index bytes snap.tree holds (traced_tree delim limit files index snap (sym (index_is files delim limit index bytes false holds is) ∙ one))) in (w.sound, w.few)

-- ---- what is written of it

abbrev text_out : Result Verdict Reason → List ℕ
text_out (Ok (writes whole)) = whole.out
text_out (Ok (runs files plan cache)) = []
text_out (Err why) = []

trace_of : (index : List ℕ) (delim : ℕ) (tree : List Directory) (text : List ℕ) → trace_written index delim tree ≡ writes_only text → written_trace tree [] delim ≡ Ok text
trace_of index delim tree text is =
    let step = then_ok (result_map_err (unwritten_reason index) (written_trace tree [] delim)) writes_only _ is in
    mapped_ok (unwritten_reason index) (written_trace tree [] delim) text (step.1 ∙ ap Ok (ap text_out step.2))

pub indexes_back : TracesMeanSoundTrees → TraceReadsBack → ReadImagesAreWritable → IndexesComeBackFromTraces
unfolding command_over index2trace_over
indexes_back sound back writable index delim limit files bytes snap text holds fit may one is =
    let step = then_ok (index_in delim 0 index files) (λ s. trace_written index delim s.tree) _ is in
    let found : Snap = step.0 in
    let good = sound_tree sound writable (is_image bytes) delim 0 files index bytes found holds fit refl step.1 in
    back found.tree [] delim text good.0 good.1 refl may (trace_of index delim found.tree text step.2)
    ∙ ap Ok (same_tree (is_image bytes) delim limit 0 files index bytes snap found holds refl one step.1)

pub images_back : ImagesHaveOneSpelling → ReadImagesAreWritable → TraceReadsBack → ImagesComeBackFromTraces
images_back spelling writable back delim bytes snap text tree fit may means written read =
    let w = writable bytes snap fit means in
    let again : trace_means delim text ≡ Ok snap.tree = back snap.tree [] delim text w.sound w.few refl may written in
    ap (λ (t : List Directory). image_text t snap.limit) (ok_same tree snap.tree (sym read ∙ again)) ∙ sym (spelling bytes snap fit means)
