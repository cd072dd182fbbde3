pub mod Keys
pub mod PrintLaws
pub mod ReadLaws
pub mod SameLaws
pub mod SayLaws
pub mod LinesLaws
pub mod RunsLaws
pub mod PlainLaws
pub mod DraftLaws
pub mod BackLaws
pub mod ShortLaws
mod OneFault
mod ReadKeys
mod OnlySays
