use Rattle.std.proofs.Common.{◌≡◌, ◌++◌}
use Rattle.std.specs.Prelude.{filter, not}
use Rattle.gufi_base.specs.Paths.{is_dropped, kept_parts}
use Rattle.gufi_base.specs.PathTexts.{closed_names, kept_text}
use Rattle.gufi_base.proofs.path_reading.text_of.Given as goal

abbrev pub invariant-loop-part : goal.invariant-loop-part
invariant-loop-part l =
    l.text.items ++ closed_names (filter (λ part. not (is_dropped part)) l.part-iterator) ≡ kept_text (kept_parts l.bytes)
