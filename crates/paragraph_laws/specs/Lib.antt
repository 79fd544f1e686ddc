pub mod ParagraphLines
pub mod ParagraphPage
pub mod ParagraphPages
pub mod ParagraphTrees
pub mod ParagraphValues
