mod KindWords
