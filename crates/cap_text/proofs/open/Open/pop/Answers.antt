use Rattle.std.proofs.Common.{rules, ◌≡◌, ◌∙◌, sym, ap, [], ◌∷◌, ◌++◌}
use Rattle.cap_leaf.specs.declared.tree.Tree.TheVariants as tree
use Rattle.cap_leaf.specs.Trees.{data_of}
use Rattle.cap_text.specs.Machine.{whole, close, inside}
use Rattle.cap_text.specs.SeenFrames.{frames_of, frame_of, branch_of, with_child}
use Rattle.cap_text.proofs.Closing.{branch_read, popped}
use Rattle.cap_text.proofs.open.Open.pop.Goals as goal

pub returns-in-None-clause-popped : goal.returns-in-None-clause-popped
returns-in-None-clause-popped c =
    let nothing : c.args.self.now.outer.items ≡ [] = search rules in
    ap (λ d. whole (data_of (tree.Branch d))) c.take.ensures
    ∙ (ap whole (branch_read c.args.self.now.current.done)
    ∙ ap (λ fs. close (frames_of fs) (branch_of (frame_of c.args.self.now.current))) (sym nothing))

pub returns-in_ok-keep-in-Some-clause-popped : goal.returns-in_ok-keep-in-Some-clause-popped
returns-in_ok-keep-in-Some-clause-popped c =
    let more : c.args.self.now.outer.items ≡ c.pop.new.self.items ++ c.in-Some.around ∷ [] = search rules in
    ap (λ f. inside (f ∷ frames_of c.pop.new.self.items)) (c.in_ok-keep-in-Some.ensures
    ∙ ap (λ f. with_child (frame_of f) (data_of (tree.Branch c.replace-done.result.done))) c.replace-done.ensures.after)
    ∙ popped c.args.self.now.outer.items c.pop.new.self.items c.in-Some.around c.args.self.now.current c.replace-done.result.done more
    (ap (λ f. f.done) c.replace-done.ensures.value)
