-- What a reader has read of an image.
use Rattle.std.specs.Prelude.{◌≡◌, ◌≤◌, ℕ, ◌+◌, ◌-◌, List, ◌++◌, length, Option, Some, None, Err}
use Rattle.gufi_base.specs.Limits.{max_image}
use Rattle.gufi_image.specs.declared.fault.ImageError.{ImageError}
use Rattle.gufi_image.specs.declared.fault.ImageError.TheVariants.{Fault, Memory}
use Rattle.gufi_image.specs.declared.progress.Progress.{Progress}
use Rattle.gufi_image.specs.Reading.{snapshot_at, image_means}
use Rattle.gufi_image.specs.Pieces.{resume}

-- A reader: what it has read, the bytes of a field that is cut off, how many bytes may still come, and the error that was met.
pub record Reading : Type 0 where
  pub progress : Option Progress
  pub kept : List ℕ
  pub room : ℕ
  pub failed : Option ImageError

-- Any image that begins with the bytes means what is read behind them.
pub record IsGood (r : Reading) (bytes : List ℕ) : Type 0 where
  pub room : length bytes + r.room ≡ max_image
  pub same : (more : List ℕ) → length more ≤ r.room → snapshot_at (bytes ++ more) ≡ resume (r.room - length more) r.progress (r.kept ++ more)

abbrev pub HasReadBy : Option ImageError → Reading → List ℕ → Type 0
HasReadBy None r bytes = IsGood r bytes
HasReadBy (Some (Fault offset kind)) r bytes = (more : List ℕ) → length (bytes ++ more) ≤ max_image → image_means (bytes ++ more) ≡ Err (Fault offset kind)
HasReadBy (Some Memory) r bytes = Unit {0}

-- The reader has read the bytes, which are no more than an image may have: it has what they hold, or the first fault, or ran out of memory.
abbrev pub HasRead : Reading → List ℕ → Type 0
HasRead r bytes = length bytes ≤ max_image → HasReadBy r.failed r bytes
