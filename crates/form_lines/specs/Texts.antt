-- The lines of forms and of form series.
use Rattle.std.specs.Prelude.{ℕ, zero, suc, ◌++◌, ◌∷◌, List, [], Bool, true, false, Option, Some, None, codes, length, if◌then◌else◌}
use Rattle.std.specs.Fmt.{decimal}
use Rattle.hex.specs.Hex.{encode_lower}
use Rattle.bank_tables.specs.Items.{Set}
use Rattle.bank_tables.specs.Tables.{size}
use Rattle.series_model.specs.Series.{SeriesProblem, Forms, forms_of}
use Rattle.series_model.specs.SeriesTrees.{Certificate}
use Rattle.series_tree.specs.Spelling.{bytes_of}
use Rattle.form_series.specs.declared.bound.SeriesBound.{SeriesBound}

-- the items of X below n, ascending, a space before each
abbrev pub items_text : ℕ → Set → List ℕ
items_text zero X = []
items_text (suc n) X = items_text n X ++ (if X n then 32 ∷ decimal n else [])

-- whether a form or a series is proved best
abbrev pub mark_text : Bool → List ℕ
mark_text true = codes "proved"
mark_text false = codes "unproved"

-- the line of a form
unfoldable pub form_line : ℕ → Set → List ℕ
form_line items X = codes "form" ++ (items_text items X ++ codes "\n")

-- the lines of the first n forms, by number
abbrev pub form_lines : ℕ → ℕ → Forms → List ℕ
form_lines items zero S = []
form_lines items (suc n) S = form_lines items n S ++ form_line items (S n)

-- a series tree as it is printed: its bytes in lower-case hexadecimal, and the end of the line
unfoldable pub series_tree_text : Certificate → List ℕ
series_tree_text T = encode_lower (bytes_of T) ++ codes "\n"

-- the first line of a series: its number of forms, its value, whether it is proved best, and the
-- number of the tree's nodes
unfoldable pub value_line : ℕ → ℕ → Bool → ℕ → List ℕ
value_line forms value proved nodes = codes "series " ++ (decimal forms ++ (codes " value "
    ++ (decimal value ++ (codes " " ++ (mark_text proved ++ (codes " nodes "
    ++ (decimal nodes ++ codes "\n")))))))

-- the line of a number that the value of no series exceeds, with the tree that shows it, if one was
-- shown
unfoldable pub bound_line : Option SeriesBound → List ℕ
bound_line None = []
bound_line (Some bound) = codes "at most " ++ (decimal bound.value
    ++ (codes " tree " ++ series_tree_text bound.tree))

-- a series that was found: its first line, its forms, its tree, and the bound, if there is one
unfoldable pub series_text : SeriesProblem → List (List ℕ) → ℕ → Bool → Certificate
    → Option SeriesBound → List ℕ
series_text Q sets value proved T bound = value_line Q.forms value proved (length T.nodes)
    ++ (form_lines (size Q.bank) Q.forms (forms_of sets)
    ++ (codes "tree " ++ (series_tree_text T ++ bound_line bound)))

-- there is no series: the tree shows it
unfoldable pub no_series : Certificate → List ℕ
no_series T = codes "no series " ++ series_tree_text T

-- no series was found within the base budget: the tree spends it
unfoldable pub no_series_within : ℕ → Certificate → List ℕ
no_series_within budget T =
    codes "no series in " ++ (decimal budget ++ (codes " nodes " ++ series_tree_text T))

-- the weights are not those of the grid's points
unfoldable pub weights_refused : List ℕ
weights_refused = codes "series: weights\n"
