-- What a worker's steps add up to.
use Rattle.std.proofs.Common.{ℕ, List, [], ◌∷◌, ◌++◌, arith, sum_by, refl, sym, ◌∙◌, Contains, subst, append_assoc}
use Rattle.std.proofs.lemmas.List.{append-nil}
use Rattle.std.proofs.lemmas.List.Sums.{sum_by_push}
use Rattle.std.proofs.lemmas.List.Elements.{All-nil, All-push}
use Rattle.gufi_pool.specs.declared.member.Member.{Member}
use Rattle.gufi_pool.specs.Members.{IsReady, SameFrame, Took, Ran, Worked}
use Rattle.gufi_pool.proofs.Routes.{shares_stay}

module _ {T P : Type 0} where
  pub ready_stays : {a b : Member T P} → SameFrame a b → IsReady a → IsReady b
  ready_stays frame ready = record {
    own = let s = frame.share in let have = ready.own in omega arith;
    routes = shares_stay _ _ frame.routes ready.routes;
  }

  pub frame_refl : (a : Member T P) → SameFrame a a
  frame_refl a = record { own = refl; share = refl; routes = refl }

  pub frame_trans : {a b c : Member T P} → SameFrame a b → SameFrame b c → SameFrame a c
  frame_trans p q = record { own = q.own ∙ p.own; share = q.share ∙ p.share; routes = q.routes ∙ p.routes }

  module _ {given : List ℕ} {kids : ℕ → List ℕ} {stands : P → List ℕ → Type 0} where
    pub worked_none : (a : Member T P) → Worked given kids stands a a
    worked_none a = record {
      frame = frame_refl a;
      more = [];
      allowed = All-nil _;
      piece = λ ran has. subst (stands a.piece) (sym (append-nil ran)) has;
      pushed = λ h. omega arith;
      taken = λ h. omega arith;
    }

    pub worked_found_none : {a b c : Member T P} → Worked given kids stands a b → Took b c [] → Worked given kids stands a c
    worked_found_none {a} {b} {c} w t = record {
      frame = frame_trans w.frame t.frame;
      more = w.more;
      allowed = w.allowed;
      piece = λ ran has. subst (λ p. stands p (ran ++ w.more)) (sym t.piece) (w.piece ran has);
      pushed = λ h. t.pushed h ∙ w.pushed h;
      taken = λ h. let s = t.taken h in let r = w.taken h in omega arith;
    }

    pub worked_one : {a b c d : Member T P} (task : ℕ) → Contains given task → Worked given kids stands a b → Took b c (task ∷ []) → Ran kids stands c d task → Worked given kids stands a d
    worked_one {a} {b} {c} {d} task may w t r = record {
      frame = frame_trans (frame_trans w.frame t.frame) r.frame;
      more = w.more ++ task ∷ [];
      allowed = All-push (Contains given) w.more task w.allowed may;
      piece = λ ran has. subst (stands d.piece) (append_assoc ran w.more (task ∷ [])) (r.piece (ran ++ w.more) (subst (λ p. stands p (ran ++ w.more)) (sym t.piece) (w.piece ran has)));
      pushed = λ h. let x = w.pushed h in let y = t.pushed h in let z = r.pushed h in omega (arith, sum_by_push (λ k. sum_by h (kids k)) w.more task);
      taken = λ h. let x = w.taken h in let y = t.taken h in let z = r.taken h in omega (arith, sum_by_push h w.more task);
    }
