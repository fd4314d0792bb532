-- The test of two rules, part by part as the code makes it.
use Rattle.std.proofs.Common.{◌≡◌, Bool, ◌&&◌, refl}
use Rattle.gufi_access.specs.Seen.{groups_kept, user_stays, users_stay}
use Rattle.gufi_access.specs.Tried.{Rule, admits_all, admits_none, rules_cover}

pub rules_cover_by : (d c : Rule) (all none : Bool) → all ≡ admits_all c → none ≡ admits_none d
    → rules_cover d c ≡ (groups_kept all d c && users_stay none all d c)
unfolding rules_cover groups_kept user_stays users_stay
rules_cover_by d c all none is_all is_none = rw (is_all, is_none) refl
