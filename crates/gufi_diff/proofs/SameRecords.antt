-- Records are the same, field by field, where they are equal.
use Rattle.std.proofs.Common.{◌≡◌, Bool, ◌&&◌, refl, sym, ap, ◌∙◌}
use Rattle.std.specs.Prelude.{Some, bytes_eq, ◌==◌}
use Rattle.std.specs.Bool.{Decides}
use Rattle.std.proofs.lemmas.Bool.{and_parts, and_from}
use Rattle.std.proofs.lemmas.Bool.Decides.{Decides-eqb, Decides-int_eq}
use Rattle.std.proofs.lemmas.Slice.Eq.{bytes_eq-Decides}
use Rattle.gufi_base.specs.declared.record.Kind.{Kind}
use Rattle.gufi_base.specs.declared.record.Kind.TheVariants.{Block, Char, Dir, Link, Fifo, File, Socket}
use Rattle.gufi_base.specs.declared.record.Meta.{Meta}
use Rattle.gufi_base.specs.declared.record.Rec.{Rec}
use Rattle.gufi_base.specs.declared.record.Row.{Row}
use Rattle.gufi_base.specs.declared.record.RowRef.{RowRef}
use Rattle.gufi_base.specs.Kinds.{kind_letter, kind_of_letter}
use Rattle.gufi_base.specs.Rows.{Stands}
use Rattle.gufi_diff.specs.Records.{same_owners, same_sizes, same_times, same_meta, same_record}

kind_again : (k : Kind) → kind_of_letter (kind_letter k) ≡ Some k
kind_again Block = refl
kind_again Char = refl
kind_again Dir = refl
kind_again Link = refl
kind_again Fifo = refl
kind_again File = refl
kind_again Socket = refl

same_kind : (k l : Kind) → kind_letter k ≡ kind_letter l → k ≡ l
same_kind k l e = let s : Some k ≡ Some l = sym (kind_again k) ∙ ap kind_of_letter e ∙ kind_again l in cc

both : {P Q : Type 0} (p q : Bool) → Decides p P → Decides q Q → Decides (p && q) (P × Q)
both p q d e = ((λ h. let parts = and_parts p q h in (d.0 parts.0, e.0 parts.1)), λ h. and_from p q (d.1 h.0) (e.1 h.1))

along : {P Q : Type 0} (p : Bool) → (P → Q) → (Q → P) → Decides p P → Decides p Q
along p f g d = ((λ h. f (d.0 h)), λ h. d.1 (g h))

kinds : (k l : Kind) → Decides (kind_letter k == kind_letter l) (k ≡ l)
kinds k l = along _ (same_kind k l) (ap kind_letter) (Decides-eqb (kind_letter k) (kind_letter l))

owners : (a b : Meta) → Decides (same_owners a b) ((((a.uid ≡ b.uid) × (a.gid ≡ b.gid)) × (a.mode ≡ b.mode)) × (a.kind ≡ b.kind))
owners a b = both _ _ (both _ _ (both _ _ (Decides-eqb a.uid b.uid) (Decides-eqb a.gid b.gid)) (Decides-eqb a.mode b.mode)) (kinds a.kind b.kind)

sizes : (a b : Meta) → Decides (same_sizes a b) (((((a.size ≡ b.size) × (a.blocks ≡ b.blocks)) × (a.blksize ≡ b.blksize)) × (a.nlink ≡ b.nlink)) × (a.inode ≡ b.inode))
sizes a b =
    both _ _ (both _ _ (both _ _ (both _ _ (Decides-eqb a.size b.size) (Decides-eqb a.blocks b.blocks)) (Decides-eqb a.blksize b.blksize)) (Decides-eqb a.nlink b.nlink)) (Decides-eqb a.inode b.inode)

times : (a b : Meta) → Decides (same_times a b) (((a.atime ≡ b.atime) × (a.mtime ≡ b.mtime)) × (a.ctime ≡ b.ctime))
times a b = both _ _ (both _ _ (Decides-int_eq a.atime b.atime) (Decides-int_eq a.mtime b.mtime)) (Decides-int_eq a.ctime b.ctime)

pub same_meta-Decides : (a b : Meta) → Decides (same_meta a b) (a ≡ b)
unfolding same_meta
same_meta-Decides a b =
    along _
    (λ h. λ i. record {
      uid = h.0.0.0.0.0 i;
      gid = h.0.0.0.0.1 i;
      mode = h.0.0.0.1 i;
      kind = h.0.0.1 i;
      size = h.0.1.0.0.0.0 i;
      blocks = h.0.1.0.0.0.1 i;
      blksize = h.0.1.0.0.1 i;
      nlink = h.0.1.0.1 i;
      inode = h.0.1.1 i;
      atime = h.1.0.0 i;
      mtime = h.1.0.1 i;
      ctime = h.1.1 i;
    })
    (λ e. (
      (
        ((((ap (λ (m : Meta). m.uid) e, ap (λ (m : Meta). m.gid) e), ap (λ (m : Meta). m.mode) e), ap (λ (m : Meta). m.kind) e)),
        ((((ap (λ (m : Meta). m.size) e, ap (λ (m : Meta). m.blocks) e), ap (λ (m : Meta). m.blksize) e), ap (λ (m : Meta). m.nlink) e), ap (λ (m : Meta). m.inode) e),
      ),
      ((ap (λ (m : Meta). m.atime) e, ap (λ (m : Meta). m.mtime) e), ap (λ (m : Meta). m.ctime) e),
    ))
    (both _ _ (both _ _ (owners a b) (sizes a b)) (times a b))

-- the law: records are the same where each of their fields is
pub same_records_are_equal : (a b : Rec) → Decides (same_record a b) (a ≡ b)
unfolding same_record
same_records_are_equal a b =
    along _
    (λ h. λ i. record { meta = h.0 i; link = h.1.0 i; xattrs = h.1.1.0 i; acl = h.1.1.1 i })
    (λ e. (ap (λ (r : Rec). r.meta) e, (ap (λ (r : Rec). r.link) e, (ap (λ (r : Rec). r.xattrs) e, ap (λ (r : Rec). r.acl) e))))
    (both _ _ (same_meta-Decides a.meta b.meta) (both _ _ (bytes_eq-Decides a.link b.link) (both _ _ (bytes_eq-Decides a.xattrs b.xattrs) (bytes_eq-Decides a.acl b.acl))))

pub same_record-parts : (a b : RowRef) (one other : Row) (m : Bool) → m ≡ same_meta a.meta.now b.meta.now → Stands a one → Stands b other
    → (m && (bytes_eq a.link.now b.link.now && (bytes_eq a.xattrs.now b.xattrs.now && bytes_eq a.acl.now b.acl.now))) ≡ same_record one.rec other.rec
unfolding same_record
same_record-parts a b one other m e p q = rw (e, p.meta, q.meta, p.link, q.link, p.xattrs, q.xattrs, p.acl, q.acl) refl
