-- Heads of directories in two lists: what a walk looks at of each, and the numbers of its record.
use Rattle.std.specs.Prelude.{◌≡◌, ℕ, List, map}
use Rattle.gufi_base.specs.declared.record.Meta.{Meta}
use Rattle.gufi_tree.specs.declared.bundle.Head.{Head}
use Rattle.gufi_tree.specs.declared.heads.HeadSpot.{HeadSpot}
use lib.Lanes.{zip2}

-- both parts of one head
abbrev pub packed_head : HeadSpot → Meta → Head
packed_head spot meta = record { meta = meta; at = spot.at; path = spot.path; link = spot.link; depth = spot.depth; last = spot.last; first = spot.first; count = spot.count; extras = spot.extras }

-- both parts of each, pairwise
abbrev pub packed_heads : List HeadSpot → List Meta → List Head
packed_heads spots metas = zip2 packed_head spots metas

-- the numbers of a record that guard its directory
pub record GuardNumbers : Type 0 where
  pub uid : ℕ
  pub gid : ℕ
  pub mode : ℕ

abbrev pub guard_in : HeadSpot → GuardNumbers
guard_in spot = record { uid = spot.uid; gid = spot.gid; mode = spot.mode }

abbrev pub guard_of : Meta → GuardNumbers
guard_of meta = record { uid = meta.uid; gid = meta.gid; mode = meta.mode }

-- each spot has a copy of the numbers that guard its directory
abbrev pub AreGuarded : List HeadSpot → List Meta → Type 0
AreGuarded spots metas = map guard_in spots ≡ map guard_of metas

abbrev pub head_spot : Head → HeadSpot
head_spot h = record {
  at = h.at;
  first = h.first;
  count = h.count;
  uid = h.meta.uid;
  gid = h.meta.gid;
  mode = h.meta.mode;
  path = h.path;
  link = h.link;
  depth = h.depth;
  last = h.last;
  extras = h.extras;
}
