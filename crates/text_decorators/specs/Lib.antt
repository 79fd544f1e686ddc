pub mod AnnotationCopies
pub mod Annotations
pub mod Colours
pub mod Laws
pub mod Marks
pub mod Steady
pub mod Texts
