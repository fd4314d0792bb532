use Rattle.std.proofs.Common.{◌+◌, ◌<◌, ◌*◌, ◌/◌, ℕ, arith}
use Rattle.std.proofs.Math.Nat.{lt-mul-div-succ}
use Rattle.std.proofs.lemmas.Nat.{div_below}
use Rattle.gufi_pool.proofs.start.share_of.Goals as goal

pub returns-clause-all : goal.returns-clause-all
returns-clause-all c = λ i within.
    let n : ℕ = c.saturating_sub.result in
    let w : ℕ = c.args.workers in
    let reach : n < w * (n / w + 1) = lt-mul-div-succ n c.requires in
    div_below i (n / w + 1) w (omega arith) (omega (arith, within, c.saturating_sub.ensures, reach))
