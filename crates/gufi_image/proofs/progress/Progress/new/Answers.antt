use Rattle.std.proofs.Common.{◌≡◌, Bool, true, false, ◌&&◌, arith, refl}
use Rattle.gufi_image.specs.Widths.{has_names}
use Rattle.gufi_image.proofs.Shape.{directories_none}
use Rattle.gufi_image.proofs.progress.Progress.new.Goals as goal

none_needed : (b : Bool) → false ≡ (b && false)
none_needed true = refl
none_needed false = refl

pub returns-clause-read : goal.returns-clause-read
returns-clause-read c = record {
  head = c.requires;
  directories = rw c.new.ensures.packing (directories_none c.args.head.entries);
  parents = rw (c.new.ensures.packing, c.new.ensures.parents) (record { len = refl; each = λ k lt. absurd (omega (arith, lt)) });
  count = rw (c.new.ensures.packing, c.new.ensures.entries) refl;
  needed = rw (c.new.ensures.packing, c.new.ensures.needed) (none_needed (has_names c.args.head.width));
  part = rw c.new.ensures.packing (omega arith, refl);
}
