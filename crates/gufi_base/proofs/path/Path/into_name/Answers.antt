use Rattle.std.proofs.Common.{◌<◌, length, arith, ◌∙◌}
use Rattle.gufi_base.proofs.Texts.{LastName-text, base-bytes, base_named}
use Rattle.gufi_base.proofs.path.Path.into_name.Goals as goal

pub of_bytes-requires : goal.of_bytes-requires
of_bytes-requires c =
    let long : 1 < length c.self.inside.text.items = omega (arith, c.len.ensures, c.self.inside.text.ok.0) in
    base_named c.self.inside.text.items c.pop-slash.new.self.items c.self.invariant long (base-bytes c.self.inside.text.items c.as_slice.result.now c.without_front-bytes.result.items c.pop-slash.new.self.items c.last_name_at-at.result c.without_front-bytes.result.len c.self.invariant long
    c.as_slice.ensures.value c.last_name_at-at.ensures.value c.without_front-bytes.ensures (omega (arith, c.without_front-bytes.result.ok.0)) c.pop-slash.ensures.rest)

pub returns : goal.returns
returns c =
    let long : 1 < length c.self.inside.text.items = omega (arith, c.len.ensures, c.self.inside.text.ok.0) in
    rw (← c.self.view_is) (
      (LastName-text c.self.inside.text.items c.self.invariant long).some,
      c.of_bytes.ensures ∙ base-bytes c.self.inside.text.items c.as_slice.result.now c.without_front-bytes.result.items c.pop-slash.new.self.items c.last_name_at-at.result
          c.without_front-bytes.result.len c.self.invariant long c.as_slice.ensures.value c.last_name_at-at.ensures.value c.without_front-bytes.ensures (omega (arith, c.without_front-bytes.result.ok.0)) c.pop-slash.ensures.rest,
    )
