use Rattle.std.proofs.Common.{◌∙◌}
use Rattle.gufi_tree.specs.Stored.{directories_of}
use Rattle.gufi_tree.specs.Gathered.{rows_of}
use Rattle.gufi_tree.proofs.Homes.{AreInOrder-same, has_home-same, home_parts, placed_more}
use Rattle.gufi_tree.proofs.place.place.Goals as goal

pub place_line-requires : goal.place_line-requires
place_line-requires c = record { order = AreInOrder-same c.loop-line.stored.items c.args.stored.now.items c.loop-line.invariant.paths c.requires.order }

pub loop-line-preserved : goal.loop-line-preserved
loop-line-preserved c =
    let tree = directories_of c.args.stored.now.items in
    let inv = c.loop-line.invariant in
    let here = has_home-same c.loop-line.stored.items c.args.stored.now.items c.in-Some.line inv.paths in
    record {
      rows = λ homes.
          let parts = home_parts tree c.loop-line.yielded c.in-Some.line homes in
          placed_more (rows_of c.args.stored.now.items) (rows_of c.loop-line.stored.items) (rows_of c.place_line.new.stored.items) c.loop-line.yielded c.in-Some.line (inv.rows parts.0) (c.in_ok-place_line.ensures.rows (here ∙ parts.1));
      kinds = λ homes kinds.
          let parts = home_parts tree c.loop-line.yielded c.in-Some.line homes in
          c.in_ok-place_line.ensures.kinds (here ∙ parts.1) (inv.kinds parts.0 kinds);
      paths = c.in_ok-place_line.ensures.paths ∙ inv.paths;
    }
