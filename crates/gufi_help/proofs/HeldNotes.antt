-- What a held note is.
use Rattle.std.proofs.Common.{◌≡◌, ℕ, ◌⊎◌, inl, inr, subst, arith, List, [], true, Option, Some}
use Rattle.std.proofs.lemmas.Bool.Decides.{nat_tests}
use Rattle.std.specs.Io.KnownBytes.{Appends}
use Rattle.gufi_io.specs.Causes.{Rose}
use Rattle.gufi_io.specs.Files.{TakesFront}
use Rattle.gufi_io.specs.declared.sink.Sink.{Ghosts as SinkOf}
use Rattle.gufi_help.specs.declared.channel.Channel.{Channel}
use Rattle.gufi_help.specs.declared.channel.Channel.TheVariants.{To, Held}
use Rattle.gufi_help.specs.Channels.{channel_taken, channel_faults, held_bytes, is_held_whole}

-- what took a note, from nothing on, and lost none of it, holds the note
pub whole_note : {K : Type 0} (inner : SinkOf K) (empty kept : Channel K) (note : List ℕ)
    → channel_taken inner empty ≡ Some [] → channel_faults inner empty ≡ 0 → is_held_whole kept ≡ true
    → Appends (channel_taken inner empty) (channel_taken inner kept) note
    ⊎ (Rose (channel_faults inner empty) (channel_faults inner kept) × TakesFront (channel_taken inner empty) (channel_taken inner kept) note)
    → held_bytes kept ≡ note
whole_note inner empty (To sink) note nothing none whole took = cc
whole_note inner empty (Held text) note nothing none whole (inl all) = subst (λ (t : Option (List ℕ)). Appends t (Some text.bytes.items) note) nothing all
whole_note inner empty (Held text) note nothing none whole (inr front) =
    let lost : text.lost ≡ 0 = grind (arith, nat_tests) in
    absurd (omega (arith, front.0))
