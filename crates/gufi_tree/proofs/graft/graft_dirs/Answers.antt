use Rattle.std.proofs.Common.{◌≡◌, ◌∙◌, ◌++◌, ℕ, [], List, length, take, drop, map, sym, ap, arith}
use Rattle.std.proofs.lemmas.List.{get_or-map}
use Rattle.gufi_base.specs.Paths.{Components}
use Rattle.gufi_tree.specs.Graft.{put_below}
use Rattle.gufi_tree.specs.Places.{path_at}
use Rattle.gufi_tree.specs.Tree.{Directory}
use Rattle.gufi_tree.proofs.Joined.{put_between}
use Rattle.gufi_tree.proofs.graft.graft_dirs.Goals as goal

pub returns : goal.returns
returns c =
    let ds = c.args.dirs.now in
    let at = c.args.at in
    let rest = take at ds ++ drop c.args.end ds in
    let path : c.path-path.result ≡ path_at ds at =
    c.path-path.ensures ∙ ap (λ (d : Directory). d.path) (c.at.ensures c.at.result) ∙ sym (get_or-map (λ (d : Directory). d.path) ds at c.at.result [] c.requires.at) in
    let more : c.push_all_below.new.dirs ≡ rest ++ map (put_below (path_at ds at)) c.args.part.now =
    c.in_ok-push_all_below.ensures ∙ ap (λ (gs : List Directory). gs ++ map (put_below c.path-path.result) c.args.part.now) c.in_ok-grafted.ensures
    ∙ ap (λ (p : Components). rest ++ map (put_below p) c.args.part.now) path in
    let count : c.len-outside.result ≡ length rest = c.len-outside.ensures ∙ ap length c.in_ok-grafted.ensures in
    c.in_ok-put_in_place.ensures
    ∙ ap (λ (n : ℕ). take at c.push_all_below.new.dirs ++ (drop n c.push_all_below.new.dirs ++ drop at (take n c.push_all_below.new.dirs))) count
    ∙ ap (λ (gs : List Directory). take at gs ++ (drop (length rest) gs ++ drop at (take (length rest) gs))) more
    ∙ put_between ds (map (put_below (path_at ds at)) c.args.part.now) at c.args.end (let w = c.requires.at in omega arith)
