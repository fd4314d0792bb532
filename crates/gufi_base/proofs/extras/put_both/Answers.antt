use Rattle.std.proofs.Common.{◌∙◌, length, ap, arith}
use Rattle.gufi_base.specs.Extras.{sized_bytes}
use Rattle.gufi_base.proofs.KeptExtras.{sized_bytes-more}
use Rattle.gufi_base.proofs.extras.put_both.Goals as goal

-- what was put before stays where more is put behind it
pub returns-clause-xattrs : goal.returns-clause-xattrs
returns-clause-xattrs c =
    let at = length c.args.text.now.items in
    let first = c.put_sized.new.text.items in
    let has = c.in_ok-has_xattrs.has_xattrs in
    let grown = c.put_sized-2.ensures.grown in
    ap (sized_bytes c.put_sized-2.new.text.items at) c.extras_of.ensures.xattrs
    ∙ ap (λ t. sized_bytes t at has) grown.1
    ∙ sized_bytes-more first grown.0 at has (omega (arith, c.in_ok-has_xattrs.ensures.kept))
    ∙ c.in_ok-has_xattrs.ensures.bytes
