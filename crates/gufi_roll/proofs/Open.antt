-- What everyone may list is covered by anything.
use Rattle.std.proofs.Common.{◌≡◌, true, eqb, length}
use Rattle.std.proofs.lemmas.Bool.{or_right}
use Rattle.gufi_access.specs.declared.class.Principal.{Principal}
use Rattle.gufi_access.specs.declared.class.Class.{Class}
use Rattle.gufi_access.specs.declared.class.Class.TheVariants.{Owner, Group, Other}
use Rattle.gufi_access.specs.Access.{Rights, class_for, class_bits, has_bits, is_granted, can_list, Covers}
use Rattle.gufi_access.specs.Tried.{covers}
use Rattle.gufi_access.proofs.Suffice.{covers_exactly}

pub open_lists : (r : Rights) → length r.acl ≡ 0 → has_bits (class_bits Owner r.mode) 5 ≡ true → has_bits (class_bits Group r.mode) 5 ≡ true → has_bits (class_bits Other r.mode) 5 ≡ true → (who : Principal) → can_list who r ≡ true
unfolding can_list is_granted
open_lists r none owner group other who = or_right (eqb who.uid 0) _ (rw none (by (class_for who r))) where
  by : (class : Class) → has_bits (class_bits class r.mode) 5 ≡ true
  by Owner = owner
  by Group = group
  by Other = other

pub covers-open : (d c : Rights) → ((who : Principal) → can_list who c ≡ true) → covers d c ≡ true
unfolding Covers
covers-open d c all = (covers_exactly d c).1 (λ who h. all who)
