-- The sum of no rows changes no sum.
use Rattle.std.proofs.Common.{◌≡◌, zero-add}
use Rattle.gufi_sums.specs.declared.summary.Summary.{Summary}
use Rattle.gufi_sums.specs.Total.{empty, join}

pub join-none : (a : Summary) → join empty a ≡ a
join-none a = λ i. record {
  dirs = zero-add a.dirs i;
  files = zero-add a.files i;
  links = zero-add a.links i;
  others = zero-add a.others i;
  bytes = zero-add a.bytes i;
  size = a.size;
  mtime = a.mtime;
  uid = a.uid;
  gid = a.gid;
}
