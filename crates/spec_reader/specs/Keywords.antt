-- The first word of a line, and how many words such a line has.
use Rattle.std.specs.Prelude.{ℕ, Bool, ◌==◌, nat_le, if◌then◌else◌, List, codes, bytes_eq, Option, Some, None}
use Rattle.spec_reader.specs.declared.keyword.Setting.{Setting}
use Rattle.spec_reader.specs.declared.keyword.Setting.TheVariants as setting
use Rattle.spec_reader.specs.declared.keyword.Constraint.{Constraint}
use Rattle.spec_reader.specs.declared.keyword.Constraint.TheVariants as constraint
use Rattle.spec_reader.specs.declared.keyword.Keyword.{Keyword}
use Rattle.spec_reader.specs.declared.keyword.Keyword.TheVariants as keyword

-- a line that may occur only once
unfoldable pub setting_of : List ℕ → Option Setting
setting_of word =
    if bytes_eq word (codes "length") then Some setting.Length
    else if bytes_eq word (codes "prior") then Some setting.Prior
    else if bytes_eq word (codes "rate") then Some setting.Rate
    else if bytes_eq word (codes "key") then Some setting.Key
    else if bytes_eq word (codes "bands") then Some setting.Bands
    else if bytes_eq word (codes "budget") then Some setting.Budget
    else if bytes_eq word (codes "base-budget") then Some setting.BaseBudget
    else if bytes_eq word (codes "sessions") then Some setting.Sessions
    else if bytes_eq word (codes "journal") then Some setting.Journal
    else if bytes_eq word (codes "base") then Some setting.Base
    else None

-- a row, or the bounds of a stimulus
unfoldable pub constraint_of : List ℕ → Option Constraint
constraint_of word =
    if bytes_eq word (codes "count") then Some constraint.Count
    else if bytes_eq word (codes "quantity") then Some constraint.Quantity
    else if bytes_eq word (codes "enemies") then Some constraint.Enemies
    else if bytes_eq word (codes "stimuli") then Some constraint.Stimuli
    else if bytes_eq word (codes "stimulus") then Some constraint.Stimulus
    else None

abbrev pub keyword_where : Option Setting → Option Constraint → Option Keyword
keyword_where (Some s) c = Some (keyword.Setting s)
keyword_where None (Some c) = Some (keyword.Constraint c)
keyword_where None None = None

-- the kind of line that a first word names
unfoldable pub keyword_of : List ℕ → Option Keyword
keyword_of word = keyword_where (setting_of word) (constraint_of word)

-- how many words such a line has, the first included
abbrev pub fits_setting : Setting → ℕ → Bool
fits_setting setting.Length n = n == 2
fits_setting setting.Prior n = nat_le 2 n
fits_setting setting.Rate n = n == 3
fits_setting setting.Key n = n == 2
fits_setting setting.Bands n = nat_le 2 n
fits_setting setting.Budget n = n == 2
fits_setting setting.BaseBudget n = n == 2
fits_setting setting.Sessions n = n == 2
fits_setting setting.Journal n = n == 2
fits_setting setting.Base n = nat_le 2 n

abbrev pub fits_constraint : Constraint → ℕ → Bool
fits_constraint constraint.Count n = nat_le 4 n
fits_constraint constraint.Quantity n = nat_le 5 n
fits_constraint constraint.Enemies n = nat_le 2 n
fits_constraint constraint.Stimuli n = n == 3
fits_constraint constraint.Stimulus n = n == 4

abbrev pub fits_count : Keyword → ℕ → Bool
fits_count (keyword.Setting s) n = fits_setting s n
fits_count (keyword.Constraint c) n = fits_constraint c n
