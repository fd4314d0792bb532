-- What is shown of a row is the row but for its names of extended attributes.
use Rattle.std.specs.Prelude.{◌≡◌, refl, Bool, true, false, if◌then◌else◌}
use Rattle.gufi_base.specs.declared.record.Row.{Row}
use Rattle.gufi_access.specs.declared.class.Principal.{Principal}
use Rattle.gufi_access.specs.Access.{is_granted}
use Rattle.gufi_tree.specs.Tree.{rights_of}
use Rattle.gufi_walk.specs.Answer.{nameless, shown}

pub shown-path : (who : Principal) (row : Row) → (shown who row).path ≡ row.path
shown-path who row = by (is_granted who (rights_of row.rec) 4) where
  by : (b : Bool) → (if b then row else nameless row).path ≡ row.path
  by true = refl
  by false = refl

pub shown-meta : (who : Principal) (row : Row) → (shown who row).rec.meta ≡ row.rec.meta
shown-meta who row = by (is_granted who (rights_of row.rec) 4) where
  by : (b : Bool) → (if b then row else nameless row).rec.meta ≡ row.rec.meta
  by true = refl
  by false = refl

pub shown-link : (who : Principal) (row : Row) → (shown who row).rec.link ≡ row.rec.link
shown-link who row = by (is_granted who (rights_of row.rec) 4) where
  by : (b : Bool) → (if b then row else nameless row).rec.link ≡ row.rec.link
  by true = refl
  by false = refl
