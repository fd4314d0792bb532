-- What a channel has taken, and how often it has failed.
use Rattle.std.specs.Prelude.{ℕ, Bool, false, ◌==◌, List, [], Option, Some}
use Rattle.gufi_io.specs.declared.sink.Sink.{Ghosts as SinkOf}
use Rattle.gufi_help.specs.declared.channel.Channel.{Channel}
use Rattle.gufi_help.specs.declared.channel.Channel.TheVariants.{To, Held}

module _ {K : Type 0} (sink : SinkOf K) where
  abbrev pub channel_taken : Channel K → Option (List ℕ)
  channel_taken (To inner) = sink.taken inner
  channel_taken (Held text) = Some text.bytes.items

  abbrev pub channel_faults : Channel K → ℕ
  channel_faults (To inner) = sink.faults inner
  channel_faults (Held text) = text.lost

-- the bytes that are held, where some are
abbrev pub held_bytes : {K : Type 0} → Channel K → List ℕ
held_bytes (To inner) = []
held_bytes (Held text) = text.bytes.items

-- all that came is held
abbrev pub is_held_whole : {K : Type 0} → Channel K → Bool
is_held_whole (To inner) = false
is_held_whole (Held text) = text.lost == 0
