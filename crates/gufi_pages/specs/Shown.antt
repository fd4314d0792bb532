-- How showing a page ends.
use Rattle.std.specs.Prelude.{◌≡◌, ◌⊎◌, ℕ, List, codes}
use Rattle.std.specs.Io.KnownBytes.{Appends}
use Rattle.gufi_base.specs.Basics.{line}
use Rattle.gufi_io.specs.Causes.{Rose}
use Rattle.gufi_io.specs.Files.{TakesFront}
use Rattle.gufi_io.specs.declared.sink.Sink.{Ghosts as SinkOf}

abbrev pub cut_note : List ℕ
cut_note = line (codes "gufi: write fault")

module _ {K : Type 0} (sink : SinkOf K) where
  -- all of the text was taken, and no note
  pub record IsShown (out out' notes notes' : K) (text : List ℕ) : Type 0 where
    pub taken : Appends (sink.taken out) (sink.taken out') text
    pub noted : sink.taken notes' ≡ sink.taken notes

  -- the output failed: a front of the text was taken, and the note of that, or a front of it where the faults of its sink rose
  pub record CutShort (out out' notes notes' : K) (text : List ℕ) : Type 0 where
    pub cause : Rose (sink.faults out) (sink.faults out')
    pub taken : TakesFront (sink.taken out) (sink.taken out') text
    pub noted : Appends (sink.taken notes) (sink.taken notes') cut_note ⊎ (Rose (sink.faults notes) (sink.faults notes') × TakesFront (sink.taken notes) (sink.taken notes') cut_note)
