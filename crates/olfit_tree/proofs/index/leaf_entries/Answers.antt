use Rattle.std.proofs.Common.{◌∙◌, ◌++◌, ℕ, List, arith, sym, ap}
use Rattle.olfit_nodes.specs.Nodes.{entries_of, right_of}
use Rattle.olfit_walk.specs.Looks.{entries_of_keys}
use Rattle.olfit_change.proofs.Ready.{few_at, stays_on, words_still}
use Rattle.olfit_tree.proofs.Chains.{gathered_on, gathered_all}
use Rattle.olfit_tree.proofs.index.leaf_entries.Goals as goal

pub push_entries-requires : goal.push_entries-requires
push_entries-requires c = few_at _ _ c.args.me.now 0 c.chain.node c.own_node-words.result c.requires c.chain.invariant.gathered.at (words_still c.args.me.now c.chain.me c.chain.node c.own_node-words.result c.chain.invariant.same c.own_node-words.ensures.words)

pub chain-smaller : goal.chain-smaller
chain-smaller c =
    let words = words_still c.args.me.now c.chain.me c.chain.node c.own_node-words.result c.chain.invariant.same c.own_node-words.ensures.words in
    let more = c.in_ok-push_entries.ensures ∙ ap (λ (ws : List ℕ). entries_of_keys c.chain.all.items ++ entries_of ws) (words_still c.args.me.now c.chain.me c.chain.node c.own_node-words.result c.chain.invariant.same c.own_node-words.ensures.words) in
    let on = gathered_on c.args.me.now.me.0 c.chain.node (entries_of_keys c.chain.all.items) (entries_of_keys c.push_entries.new.all.items) c.requires.good c.chain.invariant.gathered more c.in-Some.link (sym (c.right.ensures ∙ ap right_of words) ∙ c.in-Some.is) in
    let lows = on.1 in let higher = on.2 in omega (arith, lows, higher)

pub chain-preserved : goal.chain-preserved
chain-preserved c =
    let words = words_still c.args.me.now c.chain.me c.chain.node c.own_node-words.result c.chain.invariant.same c.own_node-words.ensures.words in
    let more = c.in_ok-push_entries.ensures ∙ ap (λ (ws : List ℕ). entries_of_keys c.chain.all.items ++ entries_of ws) (words_still c.args.me.now c.chain.me c.chain.node c.own_node-words.result c.chain.invariant.same c.own_node-words.ensures.words) in
    let on = gathered_on c.args.me.now.me.0 c.chain.node (entries_of_keys c.chain.all.items) (entries_of_keys c.push_entries.new.all.items) c.requires.good c.chain.invariant.gathered more c.in-Some.link (sym (c.right.ensures ∙ ap right_of words) ∙ c.in-Some.is) in
    record {
      same = stays_on c.args.me.now c.chain.me c.own_node-words.new.me c.chain.invariant.same c.own_node-words.ensures.same;
      gathered = on.0;
    }

pub returns-in-None-clause-all : goal.returns-in-None-clause-all
returns-in-None-clause-all c =
    let words = words_still c.args.me.now c.chain.me c.chain.node c.own_node-words.result c.chain.invariant.same c.own_node-words.ensures.words in
    let more = c.in_ok-push_entries.ensures ∙ ap (λ (ws : List ℕ). entries_of_keys c.chain.all.items ++ entries_of ws) (words_still c.args.me.now c.chain.me c.chain.node c.own_node-words.result c.chain.invariant.same c.own_node-words.ensures.words) in
    let all = gathered_all c.args.me.now.me.0 c.chain.node (entries_of_keys c.chain.all.items) (entries_of_keys c.push_entries.new.all.items) c.requires.good c.chain.invariant.gathered more (sym (c.right.ensures ∙ ap right_of words) ∙ c.in-None.is) in
    record { rises = all.0; each = all.1 }
