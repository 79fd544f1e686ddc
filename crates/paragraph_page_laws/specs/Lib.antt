pub mod ParagraphAnswers
