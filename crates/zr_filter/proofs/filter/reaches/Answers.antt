use Rattle.std.proofs.Common.{◌∙◌, List, ap, sym}
use Rattle.std.specs.List.{list_any}
use Rattle.zr_filter.specs.declared.entry.FilterEntry.{FilterEntry}
use Rattle.zr_filter.specs.Rule.{allows, allows_within, counting, subtree_rank}
use Rattle.zr_filter.proofs.Reaching.{or_both, outside}
use Rattle.zr_filter.proofs.filter.reaches.Goals as goal

pub returns-else-allows-clause-outside : goal.returns-else-allows-clause-outside
returns-else-allows-clause-outside c = λ none.
    outside c.args.filter.now c.args.root.now
    (or_both _ _
    (sym (c.allows.ensures ∙ ap (λ (es : List FilterEntry). allows (counting (subtree_rank c.args.root.now) es)) c.as_slice-entries.ensures) ∙ c.if-allows.false)
    (sym (c.some_allows_within.ensures ∙ ap (list_any (allows_within c.args.root.now)) c.as_slice-entries.ensures) ∙ none))
