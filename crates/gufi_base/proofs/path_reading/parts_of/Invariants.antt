use Rattle.std.proofs.Common.{◌≡◌, ◌+◌, length}
use Rattle.std.specs.Prelude.{filter, not, ◌||◌, nat_lt, bytes_eq}
use Rattle.std.specs.List.{list_any}
use Rattle.gufi_base.specs.Limits.{max_name}
use Rattle.gufi_base.specs.Names.{dot_dot}
use Rattle.gufi_base.specs.Paths.{is_dropped, kept_parts}
use Rattle.gufi_base.proofs.path_reading.parts_of.Given as goal

abbrev pub invariant-loop-part : goal.invariant-loop-part
invariant-loop-part l = record {
  dots : (l.dot_dot || list_any (bytes_eq dot_dot) (filter (λ part. not (is_dropped part)) l.part-iterator)) ≡ list_any (bytes_eq dot_dot) (kept_parts l.bytes);
  long : (l.long_name || list_any (λ name. nat_lt max_name (length name)) (filter (λ part. not (is_dropped part)) l.part-iterator)) ≡ list_any (λ name. nat_lt max_name (length name)) (kept_parts l.bytes);
  names : l.count + length (filter (λ part. not (is_dropped part)) l.part-iterator) ≡ length (kept_parts l.bytes);
}
