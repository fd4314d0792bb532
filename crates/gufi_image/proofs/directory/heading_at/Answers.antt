use Rattle.std.proofs.Common.{ap, arith, ◌∙◌}
use Rattle.gufi_base.specs.declared.record.Kind.{Kind}
use Rattle.gufi_base.specs.declared.record.Meta.{Meta}
use Rattle.gufi_base.specs.declared.record.Rec.{Rec}
use Rattle.gufi_base.specs.Kinds.{is_dir}
use Rattle.gufi_image.proofs.directory.heading_at.Goals as goal

pub returns-clause-part : goal.returns-clause-part
returns-clause-part c = record {
  few = omega (arith, c.requires.so_far, c.if-count-so_far.false);
  kind = ap (λ (r : Rec). is_dir r.meta.kind) (c.in_ok-rec.ensures ∙ c.rec_ref.ensures) ∙ ap (λ (m : Meta). is_dir m.kind) c.meta-meta.ensures ∙ ap (λ (k : Kind). is_dir k) c.in_ok-own.ensures.kind;
  placed = c.in_ok-located.ensures.placed;
  parent = c.in_ok-located.ensures.parent;
}
