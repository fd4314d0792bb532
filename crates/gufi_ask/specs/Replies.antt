-- What the calls of this crate give.
use Rattle.std.specs.Prelude.{◌≡◌, ◌≢◌, ℕ, List, Vec, Result, Ok, Err}
use Rattle.std.specs.declared.alloc.Global.{Global}
use Rattle.gufi_walk.specs.declared.refusal.Refusal.{Refusal}
use Rattle.gufi_walk.specs.declared.refusal.Refusal.TheVariants as refusals

-- what a reply to an ask returned is the one that is given, unless memory ran out
abbrev pub Replies : Result (Vec ℕ Global) Refusal → Result (List ℕ) Refusal → Type 0
Replies (Ok text) given = given ≡ Ok text.items
Replies (Err refusal) given = refusal ≢ refusals.Memory → given ≡ Err refusal
