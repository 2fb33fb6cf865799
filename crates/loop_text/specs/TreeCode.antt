-- Carried out: a tree as a list from which it can be had back: how proofs distinguish trees.
use Rattle.std.specs.Prelude.{◌≡◌, ℕ, List, [], ◌∷◌, ◌++◌}
use Rattle.std.proofs.Common.{refl, ap, sym, ◌∙◌, append_assoc, append-nil}
use Rattle.std.specs.Coded.{Coded, code_by, coded×, coded_ℕ, coded_list}
use Rattle.loop_text.specs.contracts.loops.LoopTask as task
use Rattle.loop_text.specs.declared.loops.LoopTask.{LoopTask}
use Rattle.loop_text.specs.Loops.{Tree}
use Rattle.loop_text.specs.Loops.Tree.{NoStatement, ThenWork, ThenWait, ThenGroup, ThenTask}
use Rattle.loop_text.specs.Loops.Tree.{ThenFor}

-- a statement by its numbers, of which each kind has another count, and its task
abbrev pub Node : Type 0
Node = List ℕ × List LoopTask

-- the last statement first, its body after it, then those before it; each list with an end
abbrev pub nodes_of : Tree → List Node
nodes_of NoStatement = ([], []) ∷ []
nodes_of (ThenWait before line) = (line ∷ [], []) ∷ nodes_of before
nodes_of (ThenWork before cost line) = (cost ∷ line ∷ [], []) ∷ nodes_of before
nodes_of (ThenFor before from to line body) =
    (from ∷ to ∷ line ∷ [], []) ∷ (nodes_of body ++ nodes_of before)
nodes_of (ThenGroup before line brace_line body) =
    (line ∷ brace_line ∷ 0 ∷ 0 ∷ [], []) ∷ (nodes_of body ++ nodes_of before)
nodes_of (ThenTask before task body) = ([], task ∷ []) ∷ (nodes_of body ++ nodes_of before)

-- the node in front of trees that were had back
abbrev pub with_node : List ℕ → List LoopTask → List Tree → List Tree
with_node [] [] trees = NoStatement ∷ trees
with_node (line ∷ []) [] (before ∷ trees) = ThenWait before line ∷ trees
with_node (cost ∷ line ∷ []) [] (before ∷ trees) = ThenWork before cost line ∷ trees
with_node (from ∷ to ∷ line ∷ []) [] (body ∷ before ∷ trees) =
    ThenFor before from to line body ∷ trees
with_node (line ∷ brace_line ∷ zero_one ∷ zero_two ∷ []) [] (body ∷ before ∷ trees) =
    ThenGroup before line brace_line body ∷ trees
with_node [] (task ∷ tasks) (body ∷ before ∷ trees) = ThenTask before task body ∷ trees
with_node _ _ trees = trees

abbrev pub trees_of : List Node → List Tree
trees_of [] = []
trees_of (node ∷ nodes) = with_node node.0 node.1 (trees_of nodes)

abbrev pub first_of_trees : List Tree → Tree
first_of_trees [] = NoStatement
first_of_trees (tree ∷ trees) = tree

had_back : (tree : Tree) (nodes : List Node)
    → trees_of (nodes_of tree ++ nodes) ≡ tree ∷ trees_of nodes
had_back NoStatement nodes = refl
had_back (ThenWait before line) nodes = ap (with_node (line ∷ []) []) (had_back before nodes)
had_back (ThenWork before cost line) nodes =
    ap (with_node (cost ∷ line ∷ []) []) (had_back before nodes)
had_back (ThenFor before from to line body) nodes =
    ap (λ ns. with_node (from ∷ to ∷ line ∷ []) [] (trees_of ns))
    (append_assoc (nodes_of body) (nodes_of before) nodes)
    ∙ ap (with_node (from ∷ to ∷ line ∷ []) [])
    (had_back body (nodes_of before ++ nodes) ∙ ap (λ ts. body ∷ ts) (had_back before nodes))
had_back (ThenGroup before line brace_line body) nodes =
    ap (λ ns. with_node (line ∷ brace_line ∷ 0 ∷ 0 ∷ []) [] (trees_of ns))
    (append_assoc (nodes_of body) (nodes_of before) nodes)
    ∙ ap (with_node (line ∷ brace_line ∷ 0 ∷ 0 ∷ []) [])
    (had_back body (nodes_of before ++ nodes) ∙ ap (λ ts. body ∷ ts) (had_back before nodes))
had_back (ThenTask before task body) nodes =
    ap (λ ns. with_node [] (task ∷ []) (trees_of ns))
    (append_assoc (nodes_of body) (nodes_of before) nodes)
    ∙ ap (with_node [] (task ∷ []))
    (had_back body (nodes_of before ++ nodes) ∙ ap (λ ts. body ∷ ts) (had_back before nodes))

pub is_had_back : (tree : Tree) → first_of_trees (trees_of (nodes_of tree)) ≡ tree
is_had_back tree =
    ap (λ ns. first_of_trees (trees_of ns)) (sym (append-nil (nodes_of tree)))
    ∙ ap first_of_trees (had_back tree [])

abbrev pub tree_code : Coded Tree
tree_code =
    code_by (List Node) (coded_list (coded× (coded_list coded_ℕ) (coded_list task.the_row.coded)))
    nodes_of (λ nodes. first_of_trees (trees_of nodes)) is_had_back
