use Rattle.series_outcome.proofs.fallback.+search.Given as goal

-- the branches that the budget leaves
abbrev pub decreases-search : goal.decreases-search
decreases-search l = l.state.now.branches
