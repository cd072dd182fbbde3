pub mod Shapes
pub mod Loops
pub mod VectorLaws
pub mod NodeLaws
pub mod TreeLaws
pub mod CutLaws
pub mod TextLaws
