-- Laws of covering.
use Rattle.gufi_access.specs.Access.{Rights, Covers}

pub Covers-refl : (d : Rights) → Covers d d
unfolding Covers
Covers-refl d p h = h
