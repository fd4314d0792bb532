-- What the program's own values stand for.
use Rattle.std.specs.Prelude.{ℕ, List, Vec}
use Rattle.std.specs.declared.alloc.Global.{Global}
use Rattle.gufi_top.specs.Verdict.{Verdict, writes}
use Rattle.gufi_top.specs.declared.halt.Output.{Output}

abbrev pub text_view : Output → Verdict
text_view output = writes (record { out = output.out.items; notes = output.notes.items })

abbrev pub bytes_view : Vec ℕ Global → List ℕ
bytes_view bytes = bytes.items
