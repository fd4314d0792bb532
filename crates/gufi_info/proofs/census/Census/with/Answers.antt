use Rattle.std.proofs.Common.{rules, ◌≡◌, ◌||◌, Some, ap, ◌∙◌, arith}
use Rattle.std.specs.Int.{int_min, int_max}
use Rattle.std.proofs.lemmas.Grind.{common_steps}
use Rattle.gufi_sums.specs.Total.{span}
use Rattle.gufi_info.proofs.census.Census.with.Goals as goal

pub returns : goal.returns
returns c =
    let meta = c.args.rec.now.meta in
    let atime : c.with_time.result ≡ span int_min int_max c.args.self.atime (Some (meta.atime, meta.atime)) = first_of (search rules, grind (arith, common_steps)) in
    let mtime : c.with_time-2.result ≡ span int_min int_max c.args.self.mtime (Some (meta.mtime, meta.mtime)) = first_of (search rules, grind (arith, common_steps)) in
    let ctime : c.with_time-3.result ≡ span int_min int_max c.args.self.ctime (Some (meta.ctime, meta.ctime)) = first_of (search rules, grind (arith, common_steps)) in
    λ i. record {
      depth = c.max.ensures i;
      atime = atime i;
      mtime = mtime i;
      ctime = ctime i;
      acls = (c.is_either.ensures ∙ ap (λ b. c.args.self.acls || b) c.has_list.ensures) i;
      xattrs = (c.is_either-2.ensures ∙ ap (λ b. c.args.self.xattrs || b) c.has_names.ensures) i;
    }
