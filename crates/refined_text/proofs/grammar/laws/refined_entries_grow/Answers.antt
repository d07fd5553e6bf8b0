use Rattle.refined_text.proofs.GrammarEntryLemmas.{caps_grow, groups_of_lines_grow, offsets_of_lines_grow}
use Rattle.refined_text.proofs.GrammarEntryLemmas.{cliques_of_lines_grow, lists_end}
use Rattle.refined_text.proofs.grammar.laws.refined_entries_grow.Goals as goal

pub returns-clause-cap : goal.returns-clause-cap
returns-clause-cap c = caps_grow

pub returns-clause-group : goal.returns-clause-group
returns-clause-group c = groups_of_lines_grow

pub returns-clause-offset : goal.returns-clause-offset
returns-clause-offset c = offsets_of_lines_grow

pub returns-clause-clique : goal.returns-clause-clique
returns-clause-clique c = cliques_of_lines_grow

pub returns-clause-end : goal.returns-clause-end
returns-clause-end c = lists_end
